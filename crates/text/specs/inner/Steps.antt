-- Reading a text byte by byte. A place is the number that an item's bytes spell so far, or none between items.
--   spelled_at p      the number that goes in front of a digit there: 0 in front of an item's first
--   ended p        what a separator does
--   more v b       what another byte does inside an item whose bytes spell v
--   step p b       what the byte does; refusal 14 where the item is no number
use Rattle.std.specs.Prelude.{ℕ, ◌+◌, ◌-◌, ◌*◌, cond, leb, Option, None, Some, Result, Ok, Err}
use Rattle.refusals.specs.declared.Refusal.{Refusal}
use Rattle.text.specs.Text.{max_word, text_refusal, separates, is_digit}
use Rattle.text.specs.declared.Step.{Step}
use Rattle.text.specs.declared.Step.TheVariants.{Skip, Digit, Word}

abbrev pub spelled_at : Option ℕ → ℕ
spelled_at None = 0
spelled_at (Some v) = v

abbrev pub ended : Option ℕ → Step
ended None = Skip
ended (Some v) = Word v

unfoldable pub more : ℕ → ℕ → Result Step Refusal
more v b = cond (is_digit b) (cond (leb (v * 10 + (b - 48)) max_word) (Ok (Digit (v * 10 + (b - 48)))) (Err text_refusal)) (Err text_refusal)

unfoldable pub step : Option ℕ → ℕ → Result Step Refusal
step p b = cond (separates b) (Ok (ended p)) (more (spelled_at p) b)
