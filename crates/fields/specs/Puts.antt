-- The fields that a frame has, as puts: (n, x) where field n has the value x.
--   only_if b ps    the puts ps where b holds, else none
--   put_all ps rs   the readings rs with the puts made
use Rattle.std.specs.Prelude.{ℕ, Bool, cond, List, [], ◌∷◌, set, Option, Some}

abbrev pub Put : Type 0
Put = ℕ × ℕ

abbrev pub only_if : Bool → List Put → List Put
only_if b ps = cond b ps []

unfoldable pub put_all : List Put → List (Option ℕ) → List (Option ℕ)
put_all [] rs = rs
put_all ((n, x) ∷ ps) rs = put_all ps (set rs n (Some x))
