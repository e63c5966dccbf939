-- Puts one behind the other, and a header from the steps that read it.
--   noted_append, filled_append    what the first leave is what the others are added to
--   unchanged, then                the same of a header: no puts, and some behind others
--   first_puts f p                 the box port and field 0
--   part_puts f                    the fields of the transport part
--   header_by_steps                the first puts, those of the packet's header and those of the part make the header
use Rattle.std.specs.Prelude.{ℕ, ◌≡◌, refl, Bool, true, false, List, [], ◌∷◌, ◌++◌}
use Rattle.std.proofs.Common.{append_assoc, append-nil}
use Rattle.fields.specs.declared.Header.{Header}
use Rattle.fields.specs.Puts.{Put, only_if}
use Rattle.fields.specs.Ethernet.{ether_type, ethernet}
use Rattle.fields.specs.Ipv4.{internet, internet_puts, protocol, transport}
use Rattle.fields.specs.Transport.{transport_puts}
use Rattle.fields.specs.Fields.{puts}
use Rattle.fields.specs.Header.{noted, filled, present_set, HeaderOf}
use Rattle.fields.specs.inner.Parts.{Added}

pub noted_append : (ps qs : List Put) (s : ℕ) → noted (ps ++ qs) s ≡ noted qs (noted ps s)
unfolding noted
noted_append [] qs s = refl
noted_append ((n, x) ∷ ps) qs s = noted_append ps qs _

pub filled_append : (ps qs : List Put) (old : List ℕ) → filled (ps ++ qs) old ≡ filled qs (filled ps old)
unfolding filled
filled_append [] qs old = refl
filled_append ((n, x) ∷ ps) qs old = filled_append ps qs _

pub unchanged : {h : Header} → Added [] h h
unfolding noted filled
unchanged = record { set = refl; words = refl }

pub then : {ps qs : List Put} {h m n : Header} → Added ps h m → Added qs m n → Added (ps ++ qs) h n
then {ps} {qs} {h} a b =
    record {
      set = rw (noted_append ps qs h.present, ← a.set) b.set;
      words = rw (filled_append ps qs h.values, ← a.words) b.words;
    }

abbrev pub first_puts : List ℕ → ℕ → List Put
first_puts f p = (13, p) ∷ [] ++ only_if (ethernet f) ((0, ether_type f) ∷ [])

abbrev pub part_puts : List ℕ → List Put
part_puts f = only_if (internet f) (transport_puts (protocol f) (transport f))

both_if : (b : Bool) (ps qs rs : List Put) → ps ++ only_if b qs ++ only_if b rs ≡ ps ++ only_if b (qs ++ rs)
both_if true ps qs rs = append_assoc ps qs rs
both_if false ps qs rs = append-nil (ps ++ [])

-- Reading begins from the empty set, whatever the set was before.
pub header_by_steps :
    {f : List ℕ} {p : ℕ} {old h₁ h₂ new : Header} →
    Added (first_puts f p) (record { present = 0; values = old.values }) h₁ →
    Added (only_if (internet f) (internet_puts f)) h₁ h₂ →
    Added (part_puts f) h₂ new →
    HeaderOf f p old new
unfolding puts present_set
header_by_steps {f} {p} a b c =
    let all = then (then a b) c in
    let same = both_if (internet f) (first_puts f p) (internet_puts f) (transport_puts (protocol f) (transport f)) in
    record { set = rw (← same) all.set; words = rw (← same) all.words }
