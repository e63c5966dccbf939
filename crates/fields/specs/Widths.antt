-- Document 01, "Fields": the width of each field is a constant of its number.
--   field_count   how many fields there are
--   widths       their widths in bits, by number
--   full n       the greatest number of field n's width
use Rattle.std.specs.Prelude.{ℕ, ◌-◌, ◌^◌, List, [], ◌∷◌, get_or}

abbrev pub field_count : ℕ
field_count = 14

abbrev pub widths : List ℕ
widths = 16 ∷ 8 ∷ 16 ∷ 16 ∷ 8 ∷ 8 ∷ 32 ∷ 32 ∷ 16 ∷ 16 ∷ 8 ∷ 8 ∷ 8 ∷ 8 ∷ []

unfoldable pub width : ℕ → ℕ
width n = get_or widths n 0

unfoldable pub full : ℕ → ℕ
unfolding width
full n = 2 ^ width n - 1
