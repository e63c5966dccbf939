-- Document 01, "Tests, filters, ranks", second paragraph: a list is a run of words.
--   max_filters, max_tests, max_rank   64 filters, as many as a set has bits; 8 tests a filter; groups and levels to 255
--   head_words, test_words            three words before the tests, four words a test
--   kind_equal .. kind_at_least        the kinds, 1 to 4
--   kind_at .. value_at               the places of a test's words
--   Item, Filter     a test with its field; a filter with its group, level and tests
--   test_of k m v     the test that the words kind, mask, value mean
--   filters_of ws     the filters of the words ws, which refusals 1 to 9 do not meet
use Rattle.std.specs.Prelude.{ℕ, zero, suc, ◌+◌, ◌*◌, cond, List, [], ◌∷◌, eqb}
use lib.ListN.{get_or, drop}
use Rattle.sets.specs.Sets.{set_bits}
use Rattle.residue.specs.declared.Test.{Test}
use Rattle.residue.specs.declared.Test.TheVariants.{Equal, Differs, AtMost, AtLeast}

abbrev pub max_filters : ℕ
max_filters = set_bits

abbrev pub max_tests : ℕ
max_tests = 8

abbrev pub max_rank : ℕ
max_rank = 255

abbrev pub head_words : ℕ
head_words = 3

abbrev pub test_words : ℕ
test_words = 4

-- First paragraph of the section: the kinds of tests.
abbrev pub kind_equal : ℕ
kind_equal = 1

abbrev pub kind_differs : ℕ
kind_differs = 2

abbrev pub kind_at_most : ℕ
kind_at_most = 3

abbrev pub kind_at_least : ℕ
kind_at_least = 4

pub record Item : Type 0 where
  pub field : ℕ
  pub test : Test

pub record Filter : Type 0 where
  pub group : ℕ
  pub level : ℕ
  pub tests : List Item

-- The words of a filter's head, and how many words the filter takes.
abbrev pub group_word : List ℕ → ℕ
group_word ws = get_or ws 0 0

abbrev pub level_word : List ℕ → ℕ
level_word ws = get_or ws 1 0

abbrev pub count_word : List ℕ → ℕ
count_word ws = get_or ws 2 0

abbrev pub filter_words : List ℕ → ℕ
filter_words ws = head_words + test_words * count_word ws

-- The places of a test's words.
abbrev pub kind_at : ℕ
kind_at = 0

abbrev pub field_at : ℕ
field_at = 1

abbrev pub mask_at : ℕ
mask_at = 2

abbrev pub value_at : ℕ
value_at = 3

-- Refusal 5 leaves no other kind.
unfoldable pub test_of : ℕ → ℕ → ℕ → Test
test_of k m v = cond (eqb k kind_equal) (Equal m v) (cond (eqb k kind_differs) (Differs m v) (cond (eqb k kind_at_most) (AtMost v) (AtLeast v)))

unfoldable pub item_of : List ℕ → Item
item_of ws = record { field = get_or ws field_at 0; test = test_of (get_or ws kind_at 0) (get_or ws mask_at 0) (get_or ws value_at 0) }

unfoldable pub items_of : ℕ → List ℕ → List Item
items_of zero ws = []
items_of (suc n) ws = item_of ws ∷ items_of n (drop test_words ws)

unfoldable pub filter_of : List ℕ → Filter
filter_of ws = record { group = group_word ws; level = level_word ws; tests = items_of (count_word ws) (drop head_words ws) }

-- At most n filters from the words on.
unfoldable pub filters_from : ℕ → List ℕ → List Filter
filters_from zero ws = []
filters_from (suc n) [] = []
filters_from (suc n) (w ∷ ws) = filter_of (w ∷ ws) ∷ filters_from n (drop (filter_words (w ∷ ws)) (w ∷ ws))

unfoldable pub filters_of : List ℕ → List Filter
filters_of ws = filters_from max_filters ws

-- How many tests the filters have.
unfoldable pub tests_in : List Filter → ℕ
tests_in [] = 0
tests_in (f ∷ fs) = lib.ListN.length f.tests + tests_in fs
