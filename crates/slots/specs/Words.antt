-- Document 01, "States and the table": scratch words a slot (a fixed number, at most 2,048 since document 02, P8), and the words of a question.
--   filter_slot, slot_words   words a filter and words a slot
--   question_words a         the words of a question; zeros where nothing is asked
use Rattle.std.specs.Prelude.{ℕ, ◌*◌, List, [], ◌∷◌}
use Rattle.lists.specs.Filters.{max_filters, max_tests, test_words}
use Rattle.lists.specs.Words.{item_words}
use Rattle.states.specs.States.{Question, nothing, ask}

abbrev pub filter_slot : ℕ
filter_slot = max_tests * test_words

abbrev pub slot_words : ℕ
slot_words = max_filters * filter_slot

unfoldable pub question_words : Question → List ℕ
question_words nothing = 0 ∷ 0 ∷ 0 ∷ 0 ∷ []
question_words (ask q) = item_words q
