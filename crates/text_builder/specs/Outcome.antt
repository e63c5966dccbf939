-- Document 01, "Numbers to try", the paragraph on the program: what compiling a list that stands as text answers and leaves.
--   text_outcome x t s   what building the text x in the table t with the scratch s comes to
use Rattle.std.specs.Prelude.{ℕ, cond, List}
use Rattle.refusals.specs.Numbers.{unplaced}
use Rattle.text.specs.Text.{text_refusal, readable, words_of}
use Rattle.builder.specs.Outcome.{Left, refused, outcome}

-- Refusal 14 comes before all else, names no filter and changes no word; an accepted text is the list of its words.
unfoldable pub text_outcome : List ℕ → List ℕ → List ℕ → Left
text_outcome x t s = cond (readable x) (outcome (words_of x) t s) (refused (unplaced text_refusal) t s)
