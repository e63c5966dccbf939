-- The column of the filters' groups and levels.
--   rank_of f            the filter's group and level
--   no_rank              those of no filter
--   rank_in rs i         the rank at a place of the column; that of no filter behind its end
--   above_by rs j i      filter j ranks above filter i
--   Heads fs n rs        the first n ranks are those of the n filters
use Rattle.std.specs.Prelude.{ℕ, ◌≤◌, Bool, ◌≡◌, List, map, length, get_or, take}
use Rattle.lists.specs.declared.Rank.{Rank}
use Rattle.lists.specs.Filters.{max_filters, Filter}
use Rattle.lists.specs.Ranks.{no_filter, outranks}

abbrev pub rank_of : Filter → Rank
rank_of f = record { group = f.group; level = f.level }

abbrev pub no_rank : Rank
no_rank = rank_of no_filter

abbrev pub rank_in : List Rank → ℕ → Rank
rank_in rs i = get_or rs i no_rank

unfoldable pub above_by : List Rank → ℕ → ℕ → Bool
above_by rs j i = outranks (rank_in rs j).group (rank_in rs j).level j (rank_in rs i).group (rank_in rs i).level i

pub record Heads (fs : List Filter) (n : ℕ) (rs : List Rank) : Type 0 where
  pub count : n ≡ length fs
  pub few : n ≤ max_filters
  pub ranks : take n rs ≡ map rank_of fs
