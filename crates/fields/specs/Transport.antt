-- Document 01, "Fields": the fields of a transport part t whose protocol is q: 8 source port, 9 destination port, 10 TCP flags,
-- 11 ICMP type, 12 ICMP code.
use Rattle.std.specs.Prelude.{ℕ, ◌&&◌, ◌||◌, List, [], ◌∷◌, ◌++◌, leb, eqb, length}
use Rattle.fields.specs.Bytes.{byte, two}
use Rattle.fields.specs.Puts.{Put, only_if}

abbrev pub tcp : ℕ
tcp = 6

abbrev pub udp : ℕ
udp = 17

abbrev pub icmp : ℕ
icmp = 1

unfoldable pub transport_puts : ℕ → List ℕ → List Put
transport_puts q t =
    only_if ((eqb q tcp || eqb q udp) && leb 4 (length t)) ((8, two t 0) ∷ (9, two t 2) ∷ []) ++
    only_if (eqb q tcp && leb 14 (length t)) ((10, byte t 13) ∷ []) ++
    only_if (eqb q icmp && leb 1 (length t)) ((11, byte t 0) ∷ []) ++
    only_if (eqb q icmp && leb 2 (length t)) ((12, byte t 1) ∷ [])
