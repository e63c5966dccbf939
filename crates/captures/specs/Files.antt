-- Change request P10: the classic libpcap file. Numbers of 32 bits stand in the file's own byte order.
--   file_header, record_header     24 bytes before the records, 16 bytes before each frame
--   link_at, captured_at, original_at   where the link type stands in the first, the two lengths in the second
--   word_of o s i                 the number in four bytes from place i on: the highest byte first in the big order, last in the little
--   is_magic n                    the number that such a file begins with: microsecond or nanosecond stamps
--   begins o s                    the bytes begin so, read in that order
--   order_of s                    the file's order: big exactly where it begins so
--   headed s                     a whole file header in either order, with link type 1; its version is not looked at
--   captured, original o s        the lengths that the record has with which the bytes begin
--   record_bytes o s              the bytes that it takes
--   cut o s                       it does not end before the file does
--   frame_of o s                  its frame
use Rattle.std.specs.Prelude.{ℕ, ◌+◌, ◌*◌, Bool, cond, ◌&&◌, ◌||◌, List, leb, ltb, eqb, length, take, drop}
use Rattle.fields.specs.Bytes.{byte}
use Rattle.captures.specs.declared.Order.{Order}
use Rattle.captures.specs.declared.Order.TheVariants.{Big, Little}

abbrev pub file_header : ℕ
file_header = 24

abbrev pub record_header : ℕ
record_header = 16

abbrev pub link_at : ℕ
link_at = 20

abbrev pub captured_at : ℕ
captured_at = 8

abbrev pub original_at : ℕ
original_at = 12

abbrev pub ethernet_link : ℕ
ethernet_link = 1

-- 0xA1B2C3D4 and 0xA1B23C4D.
abbrev pub microseconds : ℕ
microseconds = 2712847316

abbrev pub nanoseconds : ℕ
nanoseconds = 2712812621

-- Four bytes, highest first.
unfoldable pub spelt : ℕ → ℕ → ℕ → ℕ → ℕ
spelt a b c d = a * 16777216 + b * 65536 + c * 256 + d

unfoldable pub word_of : Order → List ℕ → ℕ → ℕ
word_of Big s i = spelt (byte s i) (byte s (i + 1)) (byte s (i + 2)) (byte s (i + 3))
word_of Little s i = spelt (byte s (i + 3)) (byte s (i + 2)) (byte s (i + 1)) (byte s i)

unfoldable pub is_magic : ℕ → Bool
is_magic n = eqb n microseconds || eqb n nanoseconds

unfoldable pub begins : Order → List ℕ → Bool
begins o s = is_magic (word_of o s 0)

unfoldable pub order_of : List ℕ → Order
order_of s = cond (begins Big s) Big Little

-- The link type is the whole number.
unfoldable pub linked : List ℕ → Bool
linked s = (begins Big s || begins Little s) && eqb (word_of (order_of s) s link_at) ethernet_link

unfoldable pub headed : List ℕ → Bool
headed s = leb file_header (length s) && linked s

abbrev pub captured : Order → List ℕ → ℕ
captured o s = word_of o s captured_at

abbrev pub original : Order → List ℕ → ℕ
original o s = word_of o s original_at

abbrev pub record_bytes : Order → List ℕ → ℕ
record_bytes o s = record_header + captured o s

-- A record header that is cut counts too: whatever its lengths are, the record takes 16 bytes.
unfoldable pub cut : Order → List ℕ → Bool
cut o s = ltb (length s) (record_bytes o s)

abbrev pub frame_of : Order → List ℕ → List ℕ
frame_of o s = take (captured o s) (drop record_header s)
