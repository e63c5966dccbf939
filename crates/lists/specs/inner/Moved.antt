-- Filters that change their group, as filters and as words (document 02, P6: lists of group 0 move to group 1).
--   all_in g fs       every filter is in group g
--   in_group g f      the filter f, in group g
--   moved g fs       every filter, in group g
--   moved_words g ws  the words ws with g for each filter's group
use Rattle.std.specs.Prelude.{ℕ, zero, suc, ◌-◌, Bool, true, ◌&&◌, List, [], ◌∷◌, ◌++◌, map, eqb, take, drop}
use Rattle.lists.specs.Filters.{max_filters, Filter, filter_words}

unfoldable pub all_in : ℕ → List Filter → Bool
all_in g [] = true
all_in g (f ∷ fs) = eqb f.group g && all_in g fs

unfoldable pub in_group : ℕ → Filter → Filter
in_group g f = record { group = g; level = f.level; tests = f.tests }

unfoldable pub moved : ℕ → List Filter → List Filter
moved g fs = map (in_group g) fs

-- The words of a filter behind its group.
abbrev pub rest_words : List ℕ → ℕ
rest_words ws = filter_words ws - 1

-- At most n filters from the words on.
unfoldable pub moved_from : ℕ → ℕ → List ℕ → List ℕ
moved_from g zero ws = ws
moved_from g (suc n) [] = []
moved_from g (suc n) (w ∷ ws) = g ∷ (take (rest_words (w ∷ ws)) ws ++ moved_from g n (drop (rest_words (w ∷ ws)) ws))

unfoldable pub moved_words : ℕ → List ℕ → List ℕ
moved_words g ws = moved_from g max_filters ws
