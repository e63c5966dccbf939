-- A header by its parts, for the contracts of the functions that read them.
--   Added              the puts ps, added to the header old, give the header new
--   type_in f           field 0
--   packet_in f         a packet that is whole, with the start and the end of its transport part
--   lacking f s        what of the fields that could be there is not in the set s
--   carried f i        for each field up to 12 whether a part could have it whose protocol is byte i of the frame
use Rattle.std.specs.Prelude.{ℕ, ◌-◌, ◌^◌, ◌≡◌, Bool, false, cond, ◌||◌, List, [], ◌∷◌, eqb, Option, None, Some}
use Rattle.std.specs.Int.Bits.{bit_and}
use Rattle.fields.specs.declared.Header.{Header}
use Rattle.fields.specs.declared.ipv4.Part.{Part}
use Rattle.sets.specs.Sets.{set_of}
use Rattle.fields.specs.Puts.{Put}
use Rattle.fields.specs.Ethernet.{ether_type, ethernet}
use Rattle.fields.specs.Ipv4.{internet, transport_start, transport_end}
use Rattle.fields.specs.Transport.{tcp, udp, icmp}
use Rattle.fields.specs.Seen.{could, chances}
use Rattle.fields.specs.Header.{noted, filled}

pub record Added (ps : List Put) (old new : Header) : Type 0 where
  pub set : new.present ≡ noted ps old.present
  pub words : new.values ≡ filled ps old.values

abbrev pub type_in : List ℕ → Option ℕ
type_in f = cond (ethernet f) (Some (ether_type f)) None

abbrev pub packet_in : List ℕ → Option Part
packet_in f = cond (internet f) (Some (record { start = transport_start f; end = transport_end f })) None

abbrev pub lacking : List ℕ → ℕ → ℕ
lacking f s = bit_and (set_of (chances f)) (2 ^ 32 - 1 - s)

unfoldable pub carried : List ℕ → ℕ → List Bool
carried f i =
    let ports = could f i (λ q. eqb q tcp || eqb q udp) in
    let flags = could f i (λ q. eqb q tcp) in
    let echo = could f i (λ q. eqb q icmp) in
    false ∷ false ∷ false ∷ false ∷ false ∷ false ∷ false ∷ false ∷ ports ∷ ports ∷ flags ∷ echo ∷ echo ∷ []
