-- A column of groups and levels ranks the filters as the list does.
--   group_in, level_in   what a column holds of a filter
--   above_agrees       a filter ranks above another by the column as by the list
use Rattle.std.specs.Prelude.{ℕ, ◌<◌, ◌≡◌, List, get_or}
use Rattle.std.proofs.Common.{sym, ap, ◌∙◌}
use Rattle.std.proofs.lemmas.List.{get_or-take}
use Rattle.std.proofs.Math.ListN.{get_or-map}
use Rattle.lists.specs.declared.Rank.{Rank}
use Rattle.lists.specs.Filters.{Filter}
use Rattle.lists.specs.Ranks.{no_filter, above}
use Rattle.lists.specs.Columns.{rank_of, no_rank, rank_in, above_by, Heads}

abbrev pub group_in : Filter → ℕ
group_in f = f.group

abbrev pub level_in : Filter → ℕ
level_in f = f.level

-- A column holds its filters' ranks.
column_at : (fs : List Filter) (n : ℕ) (rs : List Rank) → Heads fs n rs → (j : ℕ) → j < n → rank_in rs j ≡ rank_of (get_or fs j no_filter)
column_at fs n rs h j l =
    sym (get_or-take n rs j no_rank l) ∙ ap (λ (xs : List Rank). get_or xs j no_rank) h.ranks ∙ get_or-map rank_of fs j no_filter

pub above_agrees : (fs : List Filter) (n : ℕ) (rs : List Rank) → Heads fs n rs → (j i : ℕ) → j < n → i < n → above_by rs j i ≡ above fs j i
unfolding above_by above
above_agrees fs n rs h j i a b = rw (column_at fs n rs h j a, column_at fs n rs h i b)
