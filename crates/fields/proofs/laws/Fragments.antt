-- Document 02, P2: a fragment whose offset is not 0 has no transport fields.
use Rattle.std.specs.Prelude.{ℕ, ◌+◌, ◌-◌, ◌%◌, ◌≡◌, refl, Bool, true, false, eqb, take, drop, replicate, Option, None}
use Rattle.std.proofs.Common.{arith, sym}
use Rattle.std.proofs.Math.Path.{subst}
use Rattle.std.proofs.Math.Bool.{and-false}
use mathlib.Core.List.{List, [], ◌∷◌, ◌++◌}
use Rattle.std.proofs.Math.ListN.{get_or}
use Rattle.fields.specs.Widths.{field_count}
use Rattle.fields.specs.Bytes.{two}
use Rattle.fields.specs.Puts.{Put, only_if, put_all}
use Rattle.fields.specs.Ethernet.{ip_start, ether_type, ethernet}
use Rattle.fields.specs.Ipv4.{internet, internet_puts, protocol, transport_start, transport_end, transport}
use Rattle.fields.specs.Transport.{transport_puts}
use Rattle.fields.specs.Fields.{puts, readings, field}

-- Fields 8 to 12 are absent.
pub record NoTransport (r : ℕ → Option ℕ) : Type 0 where
  pub source : r 8 ≡ None
  pub destination : r 9 ≡ None
  pub flags : r 10 ≡ None
  pub kind : r 11 ≡ None
  pub code : r 12 ≡ None

part_none : (s : List ℕ) (a n : ℕ) → n ≡ 0 → take n (drop a s) ≡ []
part_none s a n e = rw e refl

none_put : (q : ℕ) → transport_puts q [] ≡ []
unfolding transport_puts
none_put q = simp and-false

-- Without transport puts the readings lack these fields, whatever else is there.
unput :
    (f : List ℕ) (p : ℕ) (e i : Bool) →
    NoTransport (λ (n : ℕ). get_or (put_all ((13, p) ∷ [] ++ only_if e ((0, ether_type f) ∷ []) ++ only_if i (internet_puts f ++ [])) (replicate field_count None)) n None)
unfolding put_all internet_puts
unput f p true true = record { source = refl; destination = refl; flags = refl; kind = refl; code = refl }
unput f p true false = record { source = refl; destination = refl; flags = refl; kind = refl; code = refl }
unput f p false true = record { source = refl; destination = refl; flags = refl; kind = refl; code = refl }
unput f p false false = record { source = refl; destination = refl; flags = refl; kind = refl; code = refl }

module _ (f : List ℕ) (later : eqb (two f (ip_start + 6) % 8192) 0 ≡ false) where
  pub later_part : transport f ≡ []
  unfolding transport transport_end
  later_part = rw later (part_none f (transport_start f) (transport_start f - transport_start f) (omega arith))

  later_puts : (p : ℕ) → puts f p ≡ (13, p) ∷ [] ++ only_if (ethernet f) ((0, ether_type f) ∷ []) ++ only_if (internet f) (internet_puts f ++ [])
  unfolding puts
  later_puts p = rw (later_part, none_put (protocol f))

  pub later_absent : (p : ℕ) → NoTransport (field f p)
  unfolding field readings
  later_absent p =
      subst (λ (ps : List Put). NoTransport (λ (n : ℕ). get_or (put_all ps (replicate field_count None)) n None))
      (sym (later_puts p)) (unput f p (ethernet f) (internet f))
