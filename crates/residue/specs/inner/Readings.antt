-- Facts, residues and widths at a reading.
--   is_so k r      the fact k is so of the reading r
--   remains d r   the residue d holds of the reading r
--   in_width f r   the reading r is one of a field whose greatest number is f
use Rattle.std.specs.Prelude.{ℕ, Bool, true, false, leb, Option, None, Some}
use Rattle.residue.specs.Tests.{holds, holds_of}
use Rattle.residue.specs.declared.Residue.{Residue}
use Rattle.residue.specs.declared.Residue.TheVariants.{True, False, Left}
use Rattle.residue.specs.declared.Test.{Test}

unfoldable pub is_so : Option Test → Option ℕ → Bool
is_so None None = true
is_so None (Some x) = false
is_so (Some t) None = false
is_so (Some t) (Some x) = holds t x

unfoldable pub remains : Residue → Option ℕ → Bool
remains True r = true
remains False r = false
remains (Left t) r = holds_of t r

unfoldable pub in_width : ℕ → Option ℕ → Bool
in_width full None = true
in_width full (Some x) = leb x full
