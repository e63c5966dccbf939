-- The words of a slot: how many filters they are of, and what they ask.
--   filters_in w       how many filters the words w are of
--   out_mark           the first word of a filter that is out
--   has_test w         the filter of the words w has a test to ask
--   four_words w       the words of its first test
--   question_in n w    the four words of the first remaining test of the first filter that has any; zeros where none has
use Rattle.std.specs.Prelude.{ℕ, zero, suc, ◌+◌, ◌/◌, Bool, cond, not, ◌&&◌, List, [], ◌∷◌, eqb, length, get_or, drop}
use Rattle.lists.specs.Filters.{kind_at, field_at, mask_at, value_at, kind_at_least}
use Rattle.slots.specs.Words.{filter_slot}

abbrev pub filters_in : List ℕ → ℕ
filters_in w = length w / filter_slot

-- No kind: the first word of a filter that is out. The first word of a held filter is 0.
abbrev pub out_mark : ℕ
out_mark = kind_at_least + 1

-- A filter whose first word is neither 0 nor the mark has a test to ask.
unfoldable pub has_test : List ℕ → Bool
has_test w = not (eqb (get_or w 0 0) 0) && not (eqb (get_or w 0 0) out_mark)

unfoldable pub four_words : List ℕ → List ℕ
four_words w = get_or w kind_at 0 ∷ get_or w field_at 0 ∷ get_or w mask_at 0 ∷ get_or w value_at 0 ∷ []

unfoldable pub question_in : ℕ → List ℕ → List ℕ
question_in zero w = 0 ∷ 0 ∷ 0 ∷ 0 ∷ []
question_in (suc n) w = cond (has_test w) (four_words w) (question_in n (drop filter_slot w))
