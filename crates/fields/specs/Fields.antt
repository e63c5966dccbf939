-- Document 01, "Fields": what a frame has in each field, and when a field is present. Field 13 is the box port.
--   puts f p       the fields that the frame f has, which came in at box port p
--   readings f p   all fields, in the order of their numbers
--   field f p n    field n; absent above the last number
use Rattle.std.specs.Prelude.{ℕ, List, [], ◌∷◌, ◌++◌, get_or, replicate, Option, None}
use Rattle.fields.specs.Widths.{field_count}
use Rattle.fields.specs.Puts.{Put, only_if, put_all}
use Rattle.fields.specs.Ethernet.{ether_type, ethernet}
use Rattle.fields.specs.Ipv4.{internet, internet_puts, protocol, transport}
use Rattle.fields.specs.Transport.{transport_puts}

unfoldable pub puts : List ℕ → ℕ → List Put
puts f p =
    (13, p) ∷ [] ++
    only_if (ethernet f) ((0, ether_type f) ∷ []) ++
    only_if (internet f) (internet_puts f ++ transport_puts (protocol f) (transport f))

unfoldable pub readings : List ℕ → ℕ → List (Option ℕ)
readings f p = put_all (puts f p) (replicate field_count None)

unfoldable pub field : List ℕ → ℕ → ℕ → Option ℕ
field f p n = get_or (readings f p) n None
