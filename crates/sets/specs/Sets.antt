-- Sets of small numbers as bit sets (document 01, "States and the table": filter i is bit i).
--   set_bits       how many numbers a set has a bit for; nothing else here names a width
--   set_of bs      the set that holds i where the list has true at place i
--   member i s    the set s holds i
--   tally n p     the list p 0, p 1, .. of n truths, or of anything else
--   some n p      p is true of a number below n
use Rattle.std.specs.Prelude.{ℕ, zero, suc, ◌+◌, ◌*◌, ◌/◌, ◌%◌, ◌^◌, Bool, false, cond, ◌||◌, List, [], ◌∷◌, ◌++◌, eqb}

abbrev pub set_bits : ℕ
set_bits = 64

abbrev pub bit : Bool → ℕ
bit b = cond b 1 0

unfoldable pub set_of : List Bool → ℕ
set_of [] = 0
set_of (b ∷ bs) = set_of bs * 2 + bit b

unfoldable pub member : ℕ → ℕ → Bool
member i s = eqb (s / 2 ^ i % 2) 1

unfoldable pub tally : {A : Type 0} → ℕ → (ℕ → A) → List A
tally zero p = []
tally (suc n) p = tally n p ++ (p n ∷ [])

unfoldable pub some : ℕ → (ℕ → Bool) → Bool
some zero p = false
some (suc n) p = some n p || p n
