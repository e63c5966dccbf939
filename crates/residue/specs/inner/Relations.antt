-- What the laws of residues speak of.
--   equal_of p u     u is an equal test whose mask and value have p; and so for each kind
--   same_test a b    a and b are the same test
--   is_settled d     the residue d is true or false
--   every_left p d   the test that the residue d leaves, if it leaves one, has p
--   masked_of p u    u is an equal or a differs test whose mask and value have p
--   narrows t u     u is t on some of its bits, and of its kind; a bound stays as it is
--   repeats q u     all that the question q asks is asked by u
--   spent q u       not all that the question q asks is asked by u
use Rattle.std.specs.Prelude.{ℕ, Bool, true, false, not, ◌&&◌, eqb}
use Rattle.std.specs.Int.Bits.{bit_and}
use Rattle.residue.specs.Residues.{covers}
use Rattle.residue.specs.declared.Test.{Test}
use Rattle.residue.specs.declared.Test.TheVariants.{Equal, Differs, AtMost, AtLeast}
use Rattle.residue.specs.declared.Residue.{Residue}
use Rattle.residue.specs.declared.Residue.TheVariants.{True, False, Left}

-- A test of one kind whose numbers have p.
unfoldable pub equal_of : (ℕ → ℕ → Bool) → Test → Bool
equal_of p (Equal m v) = p m v
equal_of p (Differs m v) = false
equal_of p (AtMost c) = false
equal_of p (AtLeast c) = false

unfoldable pub differs_of : (ℕ → ℕ → Bool) → Test → Bool
differs_of p (Equal m v) = false
differs_of p (Differs m v) = p m v
differs_of p (AtMost c) = false
differs_of p (AtLeast c) = false

unfoldable pub at_most_of : (ℕ → Bool) → Test → Bool
at_most_of p (Equal m v) = false
at_most_of p (Differs m v) = false
at_most_of p (AtMost c) = p c
at_most_of p (AtLeast c) = false

unfoldable pub at_least_of : (ℕ → Bool) → Test → Bool
at_least_of p (Equal m v) = false
at_least_of p (Differs m v) = false
at_least_of p (AtMost c) = false
at_least_of p (AtLeast c) = p c

unfoldable pub same_test : Test → Test → Bool
same_test (Equal m v) u = equal_of (λ n w. eqb m n && eqb v w) u
same_test (Differs m v) u = differs_of (λ n w. eqb m n && eqb v w) u
same_test (AtMost c) u = at_most_of (eqb c) u
same_test (AtLeast c) u = at_least_of (eqb c) u

unfoldable pub is_settled : Residue → Bool
is_settled True = true
is_settled False = true
is_settled (Left t) = false

unfoldable pub every_left : (Test → Bool) → Residue → Bool
every_left p True = true
every_left p False = true
every_left p (Left t) = p t

-- Equal and differs alike.
unfoldable pub masked_of : (ℕ → ℕ → Bool) → Test → Bool
masked_of p (Equal m v) = p m v
masked_of p (Differs m v) = p m v
masked_of p (AtMost c) = false
masked_of p (AtLeast c) = false

-- Some bits are left, all of them in m, and the value is v on those bits.
unfoldable pub fewer : ℕ → ℕ → ℕ → ℕ → Bool
fewer m v n w = not (eqb n 0) && eqb (bit_and n m) n && eqb (bit_and v n) w

unfoldable pub narrows : Test → Test → Bool
narrows (Equal m v) u = equal_of (fewer m v) u
narrows (Differs m v) u = differs_of (fewer m v) u
narrows (AtMost c) u = at_most_of (eqb c) u
narrows (AtLeast c) u = at_least_of (eqb c) u

-- Equal and differs ask the same of the same bits.
unfoldable pub repeats : Test → Test → Bool
repeats (Equal k w) u = masked_of (λ m v. covers m v k w) u
repeats (Differs k w) u = masked_of (λ m v. covers m v k w) u
repeats (AtMost c) u = at_most_of (eqb c) u
repeats (AtLeast c) u = at_least_of (eqb c) u

unfoldable pub spent : Test → Test → Bool
spent q u = not (repeats q u)
