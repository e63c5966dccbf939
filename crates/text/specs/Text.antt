-- Document 01, "Numbers to try", the paragraph on the program, and refusal 14: what a text of list words says.
--   max_text, max_word   16,384 bytes; 4,294,967,295
--   separates b        the byte is a space or a line end
--   runs t             the text cut at every separator: what stands between them, empty runs too
--   items t            the runs that are not empty
--   is_digit b          the byte is one of 0 to 9
--   decimal item       the decimal number that the item's bytes spell
--   is_number item      digits only, and the number is at most max_word
--   too_long t          more bytes than max_text
--   readable t         refusal 14 is not met: the text is not too long, and every item is a number
--   words_of t          the numbers of the items before the first that is no number; none of a text that is too long
--   text_refusal        refusal 14
--   read_of t           the answer to a text: so many words, or the refusal
--   Reads              what reading a text leaves in the lent words
use Rattle.std.specs.Prelude.{ℕ, ◌+◌, ◌-◌, ◌*◌, ◌≡◌, Bool, true, cond, not, ◌&&◌, ◌||◌, List, [], ◌∷◌, ◌++◌, leb, ltb, eqb, length, drop, Result, Ok, Err}
use Rattle.refusals.specs.declared.Refusal.{Refusal}
use Rattle.refusals.specs.declared.Refusal.TheVariants as R

abbrev pub max_text : ℕ
max_text = 16384

abbrev pub max_word : ℕ
max_word = 4294967295

unfoldable pub separates : ℕ → Bool
separates b = eqb b 32 || eqb b 10

-- The byte goes in front of the first run.
unfoldable pub onto : ℕ → List (List ℕ) → List (List ℕ)
onto b [] = (b ∷ []) ∷ []
onto b (r ∷ rs) = (b ∷ r) ∷ rs

unfoldable pub runs : List ℕ → List (List ℕ)
runs [] = [] ∷ []
runs (b ∷ bs) = cond (separates b) ([] ∷ runs bs) (onto b (runs bs))

unfoldable pub nonempty : List (List ℕ) → List (List ℕ)
nonempty [] = []
nonempty ([] ∷ rs) = nonempty rs
nonempty ((b ∷ r) ∷ rs) = (b ∷ r) ∷ nonempty rs

unfoldable pub items : List ℕ → List (List ℕ)
items t = nonempty (runs t)

unfoldable pub is_digit : ℕ → Bool
is_digit b = leb 48 b && leb b 57

unfoldable pub digits_only : List ℕ → Bool
digits_only [] = true
digits_only (b ∷ bs) = is_digit b && digits_only bs

-- The number that the digits spell behind digits that spell v.
unfoldable pub spelled : ℕ → List ℕ → ℕ
spelled v [] = v
spelled v (b ∷ bs) = spelled (v * 10 + (b - 48)) bs

unfoldable pub decimal : List ℕ → ℕ
decimal item = spelled 0 item

unfoldable pub is_number : List ℕ → Bool
is_number item = digits_only item && leb (decimal item) max_word

unfoldable pub all_numbers : List (List ℕ) → Bool
all_numbers [] = true
all_numbers (item ∷ rest) = is_number item && all_numbers rest

-- The numbers of the items before the first that is no number.
unfoldable pub numbers : List (List ℕ) → List ℕ
numbers [] = []
numbers (item ∷ rest) = cond (is_number item) (decimal item ∷ numbers rest) []

unfoldable pub too_long : List ℕ → Bool
too_long t = ltb max_text (length t)

unfoldable pub readable : List ℕ → Bool
readable t = not (too_long t) && all_numbers (items t)

unfoldable pub words_of : List ℕ → List ℕ
words_of t = cond (too_long t) [] (numbers (items t))

abbrev pub text_refusal : Refusal
text_refusal = R.Text

unfoldable pub read_of : List ℕ → Result ℕ Refusal
read_of t = cond (readable t) (Ok (length (words_of t))) (Err text_refusal)

-- The words of the text stand first, and the words behind them are as before.
pub record Reads (t before after : List ℕ) (r : Result ℕ Refusal) : Type 0 where
  pub answer : r ≡ read_of t
  pub words : after ≡ words_of t ++ drop (length (words_of t)) before
