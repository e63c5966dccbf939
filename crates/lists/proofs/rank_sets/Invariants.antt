-- The sets written are those of the filters passed.
use Rattle.std.proofs.Common.{◌≡◌, length, take}
use Rattle.sets.specs.Sets.{tally}
use Rattle.lists.specs.Filters.{max_filters}
use Rattle.lists.specs.inner.Columns.{rank_set_by}
use Rattle.lists.proofs.rank_sets.Given as goal

abbrev pub invariant-loop-i : goal.invariant-loop-i
invariant-loop-i l = (length l.sets ≡ max_filters) × (take l.i l.sets ≡ tally l.i (rank_set_by l.ranks l.n))
