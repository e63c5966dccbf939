-- Document 01, "Residues": what is left of a test, given a fact about the same field. A definition for each line; the first that fits decides.
--   outside m k          the bits of m outside k
--   settled b            true or false
--   from_masked f m v t   the line x & m = v with m not full, by the kind of t
--   from_equal f m v t    the two lines x & m = v
--   from_differs m v t    the line x & m ≠ v
--   from_at_most c t       the line x ≤ c
--   from_at_least f c t    the line x ≥ c
--   residue_by f k t      what the fact k leaves of t, on a field whose greatest number is f
use Rattle.std.specs.Prelude.{ℕ, ◌+◌, ◌-◌, Bool, cond, ◌&&◌, leb, ltb, eqb, Option, None, Some}
use Rattle.std.specs.Int.Bits.{bit_and}
use Rattle.residue.specs.Tests.{holds}
use Rattle.residue.specs.declared.Test.{Test}
use Rattle.residue.specs.declared.Test.TheVariants.{Equal, Differs, AtMost, AtLeast}
use Rattle.residue.specs.declared.Residue.{Residue}
use Rattle.residue.specs.declared.Residue.TheVariants.{True, False, Left}

-- The bits of m outside k. It names no width.
unfoldable pub outside : ℕ → ℕ → ℕ
outside m k = m - bit_and m k

unfoldable pub settled : Bool → Residue
settled b = cond b True False

-- Equal and differs under what is left of the mask; no bits left: equal is true, differs is false.
unfoldable pub reduced_equal : ℕ → ℕ → Residue
reduced_equal m v = cond (eqb m 0) True (Left (Equal m v))

unfoldable pub reduced_differs : ℕ → ℕ → Residue
reduced_differs m v = cond (eqb m 0) False (Left (Differs m v))

-- The fact x & k = w with k not full.
unfoldable pub from_masked : ℕ → ℕ → ℕ → Test → Residue
from_masked full k w (Equal m v) = cond (eqb (bit_and v k) (bit_and w m)) (reduced_equal (outside m k) (outside v k)) False
from_masked full k w (Differs m v) = cond (eqb (bit_and v k) (bit_and w m)) (reduced_differs (outside m k) (outside v k)) True
from_masked full k w (AtMost c) = cond (ltb c w) False (cond (leb (w + (full - k)) c) True (Left (AtMost c)))
from_masked full k w (AtLeast c) = cond (leb c w) True (cond (ltb (w + (full - k)) c) False (Left (AtLeast c)))

-- The fact x & k = w: with the full mask the test is worked out at w.
unfoldable pub from_equal : ℕ → ℕ → ℕ → Test → Residue
from_equal full k w t = cond (eqb k full) (settled (holds t w)) (from_masked full k w t)

-- All bits of k are in m and v & k = w.
unfoldable pub covers : ℕ → ℕ → ℕ → ℕ → Bool
covers m v k w = eqb (bit_and k m) k && eqb (bit_and v k) w

-- The fact x & k ≠ w.
unfoldable pub from_differs : ℕ → ℕ → Test → Residue
from_differs k w (Equal m v) = cond (covers m v k w) False (Left (Equal m v))
from_differs k w (Differs m v) = cond (covers m v k w) True (Left (Differs m v))
from_differs k w (AtMost c) = Left (AtMost c)
from_differs k w (AtLeast c) = Left (AtLeast c)

-- The fact x ≤ b.
unfoldable pub from_at_most : ℕ → Test → Residue
from_at_most b (Equal m v) = cond (ltb b v) False (Left (Equal m v))
from_at_most b (Differs m v) = cond (ltb b v) True (Left (Differs m v))
from_at_most b (AtMost c) = cond (leb b c) True (Left (AtMost c))
from_at_most b (AtLeast c) = cond (ltb b c) False (Left (AtLeast c))

-- The fact x ≥ b.
unfoldable pub from_at_least : ℕ → ℕ → Test → Residue
from_at_least full b (Equal m v) = cond (ltb (v + (full - m)) b) False (Left (Equal m v))
from_at_least full b (Differs m v) = cond (ltb (v + (full - m)) b) True (Left (Differs m v))
from_at_least full b (AtMost c) = cond (ltb c b) False (Left (AtMost c))
from_at_least full b (AtLeast c) = cond (leb c b) True (Left (AtLeast c))

unfoldable pub residue_by : ℕ → Option Test → Test → Residue
residue_by full None t = False
residue_by full (Some (Equal k w)) t = from_equal full k w t
residue_by full (Some (Differs k w)) t = from_differs k w t
residue_by full (Some (AtMost b)) t = from_at_most b t
residue_by full (Some (AtLeast b)) t = from_at_least full b t
