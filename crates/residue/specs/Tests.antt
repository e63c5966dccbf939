-- Document 01, "Tests, filters, ranks", first paragraph, and the end of "Fields".
--   holds t x        the test t holds of the number x
--   holds_of t r      the test t holds of the reading r; no test holds of an absent field
use Rattle.std.specs.Prelude.{ℕ, Bool, false, not, leb, eqb, Option, None, Some}
use Rattle.std.specs.Int.Bits.{bit_and}
use Rattle.residue.specs.declared.Test.{Test}
use Rattle.residue.specs.declared.Test.TheVariants.{Equal, Differs, AtMost, AtLeast}

-- The four kinds, in document 01's order.
unfoldable pub holds : Test → ℕ → Bool
holds (Equal m v) x = eqb (bit_and x m) v
holds (Differs m v) x = not (eqb (bit_and x m) v)
holds (AtMost c) x = leb x c
holds (AtLeast c) x = leb c x

-- A test on an absent field does not hold, whichever kind it is.
unfoldable pub holds_of : Test → Option ℕ → Bool
holds_of t None = false
holds_of t (Some x) = holds t x
