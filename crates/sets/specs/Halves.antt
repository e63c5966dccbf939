-- A set as two words of 32 bits, the low half first (document 02, P8).
--   low_half s, high_half s   the words of the set s
--   of_halves l h            the set that two words say
use Rattle.std.specs.Prelude.{ℕ, ◌+◌, ◌*◌, ◌/◌, ◌%◌, ◌^◌}

abbrev half_size : ℕ
half_size = 2 ^ 32

abbrev pub low_half : ℕ → ℕ
low_half s = s % half_size

abbrev pub high_half : ℕ → ℕ
high_half s = s / half_size

abbrev pub of_halves : ℕ → ℕ → ℕ
of_halves l h = h * half_size + l
