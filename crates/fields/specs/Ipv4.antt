-- Document 01, "Fields": the IPv4 header and its fields, 1 type of service, 2 total length, 3 flags and fragment offset,
-- 4 time to live, 5 protocol, 6 source address, 7 destination address.
--   version, header_length          the halves of IP byte 0; the length is counted in fours
--   internet f                     fields 1 to 7 are present
--   internet_puts f                 these fields
--   transport_start, transport_end   where the transport part begins and ends
--   transport f                    the transport part
use Rattle.std.specs.Prelude.{ℕ, ◌+◌, ◌*◌, ◌/◌, ◌%◌, Bool, cond, ◌&&◌, List, [], ◌∷◌, leb, eqb, length}
use Rattle.fields.specs.Bytes.{byte, two, four, part}
use Rattle.fields.specs.Puts.{Put}
use Rattle.fields.specs.Ethernet.{ip_start, ether_type}

unfoldable pub version : List ℕ → ℕ
version f = byte f ip_start / 16

unfoldable pub header_length : List ℕ → ℕ
header_length f = 4 * (byte f ip_start % 16)

unfoldable pub total_length : List ℕ → ℕ
total_length f = two f (ip_start + 2)

unfoldable pub protocol : List ℕ → ℕ
protocol f = byte f (ip_start + 9)

unfoldable pub internet : List ℕ → Bool
internet f =
    eqb (ether_type f) 0x0800 &&
    leb 34 (length f) &&
    eqb (version f) 4 &&
    leb 20 (header_length f) &&
    leb (header_length f) (total_length f) &&
    leb (ip_start + total_length f) (length f)

unfoldable pub internet_puts : List ℕ → List Put
internet_puts f =
    (1, byte f (ip_start + 1)) ∷
    (2, total_length f) ∷
    (3, two f (ip_start + 6)) ∷
    (4, byte f (ip_start + 8)) ∷
    (5, protocol f) ∷
    (6, four f (ip_start + 12)) ∷
    (7, four f (ip_start + 16)) ∷ []

unfoldable pub transport_start : List ℕ → ℕ
transport_start f = ip_start + header_length f

-- Only the fragment with offset 0 begins with the transport header; a later one has an empty transport part.
unfoldable pub transport_end : List ℕ → ℕ
transport_end f = cond (eqb (two f (ip_start + 6) % 8192) 0) (ip_start + total_length f) (transport_start f)

unfoldable pub transport : List ℕ → List ℕ
transport f = part f (transport_start f) (transport_end f)
