-- A test as its words, in a list and in a record.
--   kind_of, mask_of, value_of   the words of a test; kinds 3 and 4 have the mask 0
--   item_words it              kind, field, mask, value
--   test_list w                the words w in that order
--   words_of ws                the first four of the words ws, as those of a test
use Rattle.std.specs.Prelude.{ℕ, List, [], ◌∷◌, get_or}
use Rattle.residue.specs.declared.Test.{Test}
use Rattle.residue.specs.declared.Test.TheVariants.{Equal, Differs, AtMost, AtLeast}
use Rattle.lists.specs.declared.TestWords.{TestWords}
use Rattle.lists.specs.Filters.{kind_equal, kind_differs, kind_at_most, kind_at_least, kind_at, field_at, mask_at, value_at, Item}

unfoldable pub kind_of : Test → ℕ
kind_of (Equal m v) = kind_equal
kind_of (Differs m v) = kind_differs
kind_of (AtMost v) = kind_at_most
kind_of (AtLeast v) = kind_at_least

unfoldable pub mask_of : Test → ℕ
mask_of (Equal m v) = m
mask_of (Differs m v) = m
mask_of (AtMost v) = 0
mask_of (AtLeast v) = 0

unfoldable pub value_of : Test → ℕ
value_of (Equal m v) = v
value_of (Differs m v) = v
value_of (AtMost v) = v
value_of (AtLeast v) = v

unfoldable pub item_words : Item → List ℕ
item_words it = kind_of it.test ∷ it.field ∷ mask_of it.test ∷ value_of it.test ∷ []

abbrev pub test_list : TestWords → List ℕ
test_list w = w.kind ∷ w.field ∷ w.mask ∷ w.value ∷ []

unfoldable pub words_of : List ℕ → TestWords
words_of ws = record { kind = get_or ws kind_at 0; field = get_or ws field_at 0; mask = get_or ws mask_at 0; value = get_or ws value_at 0 }
