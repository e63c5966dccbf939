-- What refusals 7 to 9 leave, on a field whose greatest number is f.
--   well_masked f m v   the mask m and the value v of an equal or a differs
--   well_formed f t     the test t
--   well_known f k      the fact k speaks of a well-formed test
--   well_left f d       the residue d leaves a well-formed test, or none
use Rattle.std.specs.Prelude.{ℕ, Bool, not, ◌&&◌, true, leb, eqb, Option, None, Some}
use Rattle.std.specs.Int.Bits.{bit_and}
use Rattle.residue.specs.declared.Test.{Test}
use Rattle.residue.specs.declared.Test.TheVariants.{Equal, Differs, AtMost, AtLeast}
use Rattle.residue.specs.declared.Residue.{Residue}
use Rattle.residue.specs.declared.Residue.TheVariants.{True, False, Left}

-- A mask that is not 0 and within the field, a value within the mask.
unfoldable pub well_masked : ℕ → ℕ → ℕ → Bool
well_masked full m v = not (eqb m 0) && leb m full && leb v full && eqb (bit_and v m) v

unfoldable pub well_formed : ℕ → Test → Bool
well_formed full (Equal m v) = well_masked full m v
well_formed full (Differs m v) = well_masked full m v
well_formed full (AtMost c) = leb c full
well_formed full (AtLeast c) = leb c full

unfoldable pub well_known : ℕ → Option Test → Bool
well_known full None = true
well_known full (Some t) = well_formed full t

-- A residue that is a well-formed test, or none at all.
unfoldable pub well_left : ℕ → Residue → Bool
well_left full True = true
well_left full False = true
well_left full (Left t) = well_formed full t
