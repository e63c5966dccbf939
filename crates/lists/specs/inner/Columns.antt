-- The sets of ranks worked out from a column of the filters' groups and levels.
--   rank_set_by rs n i    the set of those among the first n filters that rank above filter i; empty where there is no filter i
use Rattle.std.specs.Prelude.{ℕ, cond, List, ltb}
use Rattle.sets.specs.Sets.{set_of, tally}
use Rattle.lists.specs.declared.Rank.{Rank}
use Rattle.lists.specs.Columns.{above_by}

unfoldable pub rank_set_by : List Rank → ℕ → ℕ → ℕ
rank_set_by rs n i = cond (ltb i n) (set_of (tally n (λ j. above_by rs j i))) 0
