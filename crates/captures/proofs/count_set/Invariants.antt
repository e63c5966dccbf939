-- `captures::count_set` meets its contract: after i turns the filters below i are counted. Assumes nothing.
use Rattle.std.proofs.Common.{◌≡◌}
use Rattle.captures.specs.Replay.{count_set}
use Rattle.captures.proofs.count_set.Given as goal

abbrev pub invariant-loop-i : goal.invariant-loop-i
invariant-loop-i l = l.counts ≡ count_set l.i l.set l.initial.counts
