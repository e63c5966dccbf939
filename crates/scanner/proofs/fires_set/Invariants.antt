-- The next filter begins at the place, and the set is the tally of the filters passed.
use Rattle.std.proofs.Common.{◌≡◌, ◌≤◌, length}
use Rattle.sets.specs.Sets.{set_of, tally}
use Rattle.fields.specs.Header.{reading_at}
use Rattle.lists.specs.Filters.{filters_of}
use Rattle.lists.specs.Ranks.{fires}
use Rattle.lists.specs.laws.Walking.{At}
use Rattle.scanner.proofs.fires_set.Given as goal

abbrev pub invariant-loop-i : goal.invariant-loop-i
invariant-loop-i l = record {
  within : l.at ≤ length l.list;
  here : At l.list l.n l.i l.at;
  fired : l.set ≡ set_of (tally l.i (fires (filters_of l.list) (reading_at l.header.present l.header.values)));
}
