-- Document 01, "Tests, filters, ranks", last paragraph: ranks and the match set.
--   above fs i j       filter i ranks above filter j
--   rank_set fs i       the set of the filters that rank above filter i; empty beyond the list
--   rank_sets fs        one for each number that a filter can have
--   fires fs r i       filter i's tests all hold, where field n reads r n; false beyond the list
--   matches fs r i     filter i is in the match set
--   match_set fs r      the match set as a set
use Rattle.std.specs.Prelude.{ℕ, Bool, true, cond, not, ◌&&◌, ◌||◌, List, [], ◌∷◌, ltb, eqb, length, get_or, Option}
use Rattle.residue.specs.Tests.{holds_of}
use Rattle.sets.specs.Sets.{set_of, tally, some}
use Rattle.lists.specs.Filters.{max_filters, Item, Filter}

abbrev pub no_filter : Filter
no_filter = record { group = 0; level = 0; tests = [] }

abbrev pub group_of : List Filter → ℕ → ℕ
group_of fs i = (get_or fs i no_filter).group

abbrev pub level_of : List Filter → ℕ → ℕ
level_of fs i = (get_or fs i no_filter).level

abbrev pub tests_of : List Filter → ℕ → List Item
tests_of fs i = (get_or fs i no_filter).tests

-- Filter i of group g and level l above filter j of group h and level m. In one group: the higher level, or the same level and the earlier place.
-- In group 0 each filter is on its own (document 02, P6).
unfoldable pub outranks : ℕ → ℕ → ℕ → ℕ → ℕ → ℕ → Bool
outranks g l i h m j = not (eqb g 0) && eqb g h && (ltb m l || (eqb l m && ltb i j))

unfoldable pub above : List Filter → ℕ → ℕ → Bool
above fs i j = outranks (group_of fs i) (level_of fs i) i (group_of fs j) (level_of fs j) j

unfoldable pub rank_set : List Filter → ℕ → ℕ
rank_set fs i = cond (ltb i (length fs)) (set_of (tally (length fs) (λ j. above fs j i))) 0

unfoldable pub rank_sets : List Filter → List ℕ
rank_sets fs = tally max_filters (rank_set fs)

unfoldable pub all_hold : (ℕ → Option ℕ) → List Item → Bool
all_hold r [] = true
all_hold r (t ∷ ts) = holds_of t.test (r t.field) && all_hold r ts

unfoldable pub fires : List Filter → (ℕ → Option ℕ) → ℕ → Bool
fires fs r i = ltb i (length fs) && all_hold r (tests_of fs i)

unfoldable pub matches : List Filter → (ℕ → Option ℕ) → ℕ → Bool
matches fs r i = fires fs r i && not (some (length fs) (λ j. above fs j i && fires fs r j))

unfoldable pub match_set : List Filter → (ℕ → Option ℕ) → ℕ
match_set fs r = set_of (tally (length fs) (λ i. matches fs r i))
