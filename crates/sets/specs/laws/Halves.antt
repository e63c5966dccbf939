-- The two words of a set.
--   halves_whole   they say the set
-- Assumes nothing.
use Rattle.std.specs.Prelude.{ℕ, ◌≡◌}
use Rattle.std.proofs.Common.{arith}
use Rattle.sets.specs.Halves.{low_half, high_half, of_halves}

pub halves_whole : (s : ℕ) → of_halves (low_half s) (high_half s) ≡ s
halves_whole s = omega arith
