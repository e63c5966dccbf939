-- Which filters of a set no other of the set ranks above.
--   top_set fs s          the set of them, by the list's ranks
-- By a column of ranks:
--   beaten_by rs n s i    one of the first n filters is in the set s and ranks above filter i
--   stands_by rs n s i    filter i is in the set, and none of them beats it
use Rattle.std.specs.Prelude.{ℕ, Bool, not, ◌&&◌, List, length}
use Rattle.sets.specs.Sets.{set_of, tally, member, some}
use Rattle.lists.specs.declared.Rank.{Rank}
use Rattle.lists.specs.Filters.{Filter}
use Rattle.lists.specs.Ranks.{above}
use Rattle.lists.specs.Columns.{above_by}

unfoldable pub beaten_by : List Rank → ℕ → ℕ → ℕ → Bool
beaten_by rs n s i = some n (λ j. above_by rs j i && member j s)

unfoldable pub stands_by : List Rank → ℕ → ℕ → ℕ → Bool
stands_by rs n s i = member i s && not (beaten_by rs n s i)

unfoldable pub top_set : List Filter → ℕ → ℕ
top_set fs s = set_of (tally (length fs) (λ i. member i s && not (some (length fs) (λ j. above fs j i && member j s))))
