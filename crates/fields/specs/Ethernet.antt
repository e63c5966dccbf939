-- Document 01, "Fields": the Ethernet header and its field, 0 EtherType.
--   max_frame      the bytes of the longest frame that is not refused ("Refusal numbers", 12)
--   ip_start       where the IP header begins
--   ether_type f   the number in bytes 12 and 13
--   ethernet f    field 0 is present
use Rattle.std.specs.Prelude.{ℕ, Bool, ◌&&◌, List, leb, length}
use Rattle.fields.specs.Bytes.{two}

abbrev pub max_frame : ℕ
max_frame = 1522

abbrev pub ip_start : ℕ
ip_start = 14

abbrev pub ether_type : List ℕ → ℕ
ether_type f = two f 12

-- A smaller number there is a length of IEEE 802.3.
unfoldable pub ethernet : List ℕ → Bool
ethernet f = leb ip_start (length f) && leb 1536 (ether_type f)
