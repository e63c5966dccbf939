-- Document 02, P7: what the code decides by single bytes is what the request says by longer frames.
--   possible_so, so_possible   a frame that goes on has field n exactly where the decision says that it could
--   seen_as                    what reading a field answers is what the request says
--   seen_one                   and the request leaves one answer only
--   seen_reading               without the difference of none and cut it is the reading of document 01
use Rattle.std.specs.Prelude.{ℕ, ◌<◌, ◌≡◌, Bool, ◌&&◌, ◌||◌, List, leb, length, get_or, Option, None, Some}
use Rattle.std.proofs.Common.{arith, sym, ◌∙◌, eqb-true}
use Rattle.std.proofs.Math.Path.{refl}
use Rattle.std.proofs.Math.Bool.{true, false, true≢false, or-true}
use Rattle.std.proofs.Math.Dec.{eqb}
use Rattle.residue.specs.laws.Choice.{either, never, first}
use Rattle.fields.specs.declared.Seen.{Seen}
use Rattle.fields.specs.declared.Seen.TheVariants as S
use Rattle.fields.specs.Bytes.{byte, Bytes}
use Rattle.fields.specs.Transport.{tcp, udp, icmp}
use Rattle.fields.specs.Fields.{field}
use Rattle.fields.specs.Cut.{Possible, SeenAs}
use Rattle.fields.specs.Seen.{could, may_be_type, may_be_internet, chances, possible, seen_of, seen, reading_of}
use Rattle.fields.proofs.laws.Present.{shape, present_at}
use Rattle.fields.proofs.laws.Longer.{◌also◌, no_more, by_number, longer_so}
use Rattle.fields.proofs.laws.Grown.{grown, grown_grows, grown_type, grown_internet, grown_carries}

clash : {r : Option ℕ} {x : ℕ} → r ≡ Some x → r ≡ None → ⊥
clash {r} {x} h k = let z : ◌≡◌ {A = ℕ} 0 1 = cc in omega arith

could_too : (f : List ℕ) (i : ℕ) (p q : ℕ → Bool) → ((x : ℕ) → p x ≡ true → q x ≡ true) → could f i p ≡ true → could f i q ≡ true
unfolding could
could_too f i p q more h =
    either ((leb (length f) i || q (byte f i)) ≡ true) (leb (length f) i) (p (byte f i))
    (λ (e : leb (length f) i ≡ true). rw e)
    (λ (e : p (byte f i) ≡ true). rw (more (byte f i) e, or-true (leb (length f) i)))
    h

-- A packet is in an Ethernet frame.
pub packet_type : (f : List ℕ) → may_be_type f ≡ false → may_be_internet f ≡ false
unfolding may_be_type may_be_internet
packet_type f lacks =
    never (may_be_internet f)
    (λ (h : may_be_internet f ≡ true).
    let c1 = could f 12 (λ x. eqb x 8) in
    let c2 = could f 13 (λ x. eqb x 0) in
    let eight = first c1 c2 (first (c1 && c2) _ h) in
    true≢false (sym (could_too f 12 (λ x. eqb x 8) (λ x. leb 6 x) (λ x e. rw (eqb-true x 8 e)) eight) ∙ lacks))

pub reading_so : (b : Bool) (r : Option ℕ) → reading_of (seen_of b r) ≡ r
unfolding reading_of seen_of
reading_so b (Some x) = refl
reading_so true None = refl
reading_so false None = refl

module _ (f : List ℕ) (p : ℕ) where
  pub possible_so : (n : ℕ) → Possible f p n → possible f n ≡ true
  possible_so n some = longer_so some.1 n (sym (present_at some.0 p n) ∙ some.2)

  module _ (known : Bytes f) where
    -- The frame that shows it: TCP will do for all fields but those of ICMP.
    shown_by : (q : ℕ) → q < 256 → (n : ℕ) → get_or (shape (grown f q)) n false ≡ true → Possible f p n
    shown_by q small n has = (grown f q, grown_grows f q known small, present_at (grown f q) p n ∙ has)

    pub so_possible : (n : ℕ) → possible f n ≡ true → Possible f p n
    unfolding possible chances shape
    so_possible =
        let six = shown_by tcp (omega arith) in
        let one = shown_by icmp (omega arith) in
        let header = grown_internet f tcp in
        let ports = grown_carries f tcp (λ q. eqb q tcp || eqb q udp) 4 refl (omega arith) in
        let flags = grown_carries f tcp (λ q. eqb q tcp) 14 refl (omega arith) in
        let type = grown_carries f icmp (λ q. eqb q icmp) 1 refl (omega arith) in
        let code = grown_carries f icmp (λ q. eqb q icmp) 2 refl (omega arith) in
        by_number (λ (n : ℕ). Possible f p n) (chances f)
        ((λ h. six 0 (grown_type f tcp h)) also
        (λ h. six 1 (header h)) also
        (λ h. six 2 (header h)) also
        (λ h. six 3 (header h)) also
        (λ h. six 4 (header h)) also
        (λ h. six 5 (header h)) also
        (λ h. six 6 (header h)) also
        (λ h. six 7 (header h)) also
        (λ h. six 8 (ports h)) also
        (λ h. six 9 (ports h)) also
        (λ h. six 10 (flags h)) also
        (λ h. one 11 (type h)) also
        (λ h. one 12 (code h)) also
        (λ h. six 13 refl) also no_more)

    as_of : (n : ℕ) (b : Bool) → possible f n ≡ b → (r : Option ℕ) → field f p n ≡ r → SeenAs f p n (seen_of b r)
    unfolding SeenAs seen_of
    as_of n b e (Some x) h = h
    as_of n true e None h = (h, so_possible n e)
    as_of n false e None h = (h, λ (some : Possible f p n). true≢false (sym (possible_so n some) ∙ e))

    pub seen_as : (n : ℕ) → SeenAs f p n (seen f p n)
    unfolding seen
    seen_as n = as_of n (possible f n) refl (field f p n) refl

  pub seen_one : (n : ℕ) (s s' : Seen) → SeenAs f p n s → SeenAs f p n s' → s ≡ s'
  unfolding SeenAs
  seen_one n (S.Has x) (S.Has y) h k = cc
  seen_one n (S.Has x) S.None h k = absurd (clash h k.0)
  seen_one n (S.Has x) S.Cut h k = absurd (clash h k.0)
  seen_one n S.None (S.Has y) h k = absurd (clash k h.0)
  seen_one n S.None S.None h k = refl
  seen_one n S.None S.Cut h k = absurd (h.1 k.1)
  seen_one n S.Cut (S.Has y) h k = absurd (clash k h.0)
  seen_one n S.Cut S.None h k = absurd (k.1 h.1)
  seen_one n S.Cut S.Cut h k = refl

  pub seen_reading : (n : ℕ) → reading_of (seen f p n) ≡ field f p n
  unfolding seen
  seen_reading n = reading_so (possible f n) (field f p n)
