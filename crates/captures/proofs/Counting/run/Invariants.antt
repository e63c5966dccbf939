-- `captures::Counting::run` meets its contract. The invariant: what the bytes come to has stayed the same up to the place.
-- The measure is the number of bytes left; each step but the last takes some. Assumes nothing.
use Rattle.std.proofs.Common.{◌≡◌, ◌≤◌, ◌-◌, length, drop}
use Rattle.lists.specs.Filters.{filters_of}
use Rattle.captures.specs.Parts.{ran}
use Rattle.captures.specs.inner.Kept.{Kept}
use Rattle.captures.proofs.Counting.run.Given as goal

abbrev pub invariant-loop-gone : goal.invariant-loop-gone
invariant-loop-gone l =
    record {
      kept : Kept l.initial.self l.self;
      within : l.taken ≤ length l.s;
      same : ran (filters_of l.initial.self.list.now) l.initial.here l.initial.self.counts.now l.s ≡ ran (filters_of l.initial.self.list.now) l.here l.self.counts.now (drop l.taken l.s);
    }

abbrev pub decreases-loop-gone : goal.decreases-loop-gone
decreases-loop-gone l = length l.s - l.taken
