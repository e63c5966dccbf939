-- Runs of bytes and the numbers in them (document 01, "Fields": big-endian).
--   byte s i, two s i, four s i   the number at place i
--   part s a e                    the bytes from place a up to place e
--   Bytes s                       each element is a byte: what a slice of u8 tells of its elements
use Rattle.std.specs.Prelude.{ℕ, ◌+◌, ◌-◌, ◌*◌, List, get_or, take, drop}
use Rattle.std.specs.Int.{w8}
use Rattle.std.proofs.Common.{Fits}

abbrev pub byte : List ℕ → ℕ → ℕ
byte s i = get_or s i 0

unfoldable pub two : List ℕ → ℕ → ℕ
two s i = byte s i * 256 + byte s (i + 1)

unfoldable pub four : List ℕ → ℕ → ℕ
unfolding two
four s i = two s i * 65536 + two s (i + 2)

abbrev pub part : List ℕ → ℕ → ℕ → List ℕ
part s a e = take (e - a) (drop a s)

abbrev pub Bytes : List ℕ → Type 0
Bytes s = (i : ℕ) → Fits w8 (byte s i)
