-- The set of the fields that are cut: what the code makes of it, where it is empty, and what it tells with the rest of a header.
use Rattle.std.specs.Prelude.{ℕ, ◌≤◌, ◌<◌, ◌≡◌, Bool, ◌&&◌, ◌||◌, List, ltb, length, Option, None, Some}
use Rattle.std.proofs.Common.{arith, ◌∙◌}
use Rattle.std.proofs.Math.Path.{refl, ap, sym, fun_ext}
use Rattle.std.proofs.Math.Bool.{true, false, not, cond, and-true, and-false}
use Rattle.std.proofs.lemmas.Bool.{false≢true}
use borrow.Author.Tests.{le-leb, leb-true, lt-leb, lt-ltb, ltb-false, eqb-true}
use Rattle.std.proofs.Math.Dec.{leb, eqb}
use Rattle.std.proofs.Math.ListN.{get_or, get_or-eq_default}
use Rattle.residue.specs.laws.Choice.{first, second}
use Rattle.sets.specs.Sets.{set_of, member, tally}
use Rattle.sets.specs.laws.Members.{each, less, minus_sets, member_set_of, member_tally, tally_ext}
use Rattle.fields.specs.declared.Header.{Header}
use Rattle.fields.specs.declared.Seen.{Seen}
use Rattle.fields.specs.declared.Seen.TheVariants as S
use Rattle.fields.specs.Widths.{field_count}
use Rattle.fields.specs.Bytes.{byte}
use Rattle.fields.specs.Ethernet.{ether_type, ethernet}
use Rattle.fields.specs.Ipv4.{internet, protocol, transport}
use Rattle.fields.specs.Transport.{tcp, udp, icmp}
use Rattle.fields.specs.Fields.{puts, field}
use Rattle.fields.specs.Cut.{is_present}
use Rattle.fields.specs.Seen.{could, may_be_type, may_be_internet, may_begin, may_carry, chances, possible, seen_of, seen, is_cut, reading_of}
use Rattle.fields.specs.Header.{filled, present_set, reading_at, HeaderOf}
use Rattle.fields.specs.inner.Sight.{cut_set, seen_at}
use Rattle.fields.specs.inner.Parts.{lacking}
use Rattle.fields.proofs.laws.Cut.{reading_so}
use Rattle.fields.proofs.laws.Header.{header_agrees}
use Rattle.fields.proofs.laws.Ipv4.{internet_lengths}
use Rattle.fields.proofs.laws.Present.{shape, present_at, present_set_lem}

is_cut_lem : (b : Bool) (r : Option ℕ) → is_cut (seen_of b r) ≡ (b && not (is_present r))
unfolding is_cut seen_of is_present
is_cut_lem true (Some x) = refl
is_cut_lem false (Some x) = refl
is_cut_lem true None = refl
is_cut_lem false None = refl

module _ (f : List ℕ) (p : ℕ) where
  cut_by : (n : ℕ) → is_cut (seen f p n) ≡ (get_or (chances f) n false && not (get_or (shape f) n false))
  unfolding seen possible
  cut_by n = is_cut_lem (possible f n) (field f p n) ∙ ap (λ (b : Bool). possible f n && not b) (present_at f p n)

  -- What could be there and is not.
  cut_each : cut_set f p ≡ set_of (each less (chances f) (shape f))
  unfolding cut_set chances shape each tally
  cut_each =
      ap set_of
      (tally_ext field_count (λ (n : ℕ). is_cut (seen f p n)) (λ (n : ℕ). get_or (chances f) n false && not (get_or (shape f) n false)) (λ n l. cut_by n))

  lacking_each : lacking f (present_set f p) ≡ set_of (each less (chances f) (shape f))
  unfolding chances shape
  lacking_each = rw (present_set_lem f p) (minus_sets 32 (chances f) (shape f) refl (omega arith))

  pub cut_set_lem : lacking f (present_set f p) ≡ cut_set f p
  cut_set_lem = lacking_each ∙ sym cut_each

  -- What a packet has of its headers is not lacking.
  module _ (has : internet f ≡ true) where
    type_gone : (may_be_type f && not (ethernet f)) ≡ false
    unfolding ethernet
    type_gone =
        let known = internet_lengths f has in
        rw (le-leb 14 (length f) (omega arith), le-leb 1536 (ether_type f) (omega arith)) (and-false (may_be_type f))

    header_gone : (may_be_internet f && not (internet f)) ≡ false
    header_gone = rw has (and-false (may_be_internet f))

  -- A packet whose transport part has every field of its protocol: no field is cut.
  module _
      (has : internet f ≡ true)
      (ports : (eqb (protocol f) tcp || eqb (protocol f) udp) ≡ true → 4 ≤ length (transport f))
      (flags : eqb (protocol f) tcp ≡ true → 14 ≤ length (transport f))
      (code : eqb (protocol f) icmp ≡ true → 2 ≤ length (transport f))
    where
      carried_gone :
          (q : ℕ → Bool) (k : ℕ) → (q (protocol f) ≡ true → k ≤ length (transport f)) →
          (may_carry f q && not (internet f && (q (protocol f) && leb k (length (transport f))))) ≡ false
      unfolding may_carry protocol could
      carried_gone q k long =
          let whole = (internet_lengths f has).whole in
          rw (has, lt-leb (length f) 23 (omega arith))
          (gone (may_be_internet f && may_begin f) (q (byte f 23)) (leb k (length (transport f))) (λ e. le-leb k (length (transport f)) (long e)))
        where
          gone : (a b c : Bool) → (b ≡ true → c ≡ true) → ((a && b) && not (b && c)) ≡ false
          gone true true c f = rw (f refl)
          gone true false c f = refl
          gone false b c f = refl

      cut_none : lacking f (present_set f p) ≡ 0
      unfolding chances shape each set_of
      cut_none =
          lacking_each ∙
          rw (
            type_gone has,
            header_gone has,
            carried_gone (λ q. eqb q tcp || eqb q udp) 4 ports,
            carried_gone (λ q. eqb q tcp) 14 flags,
            carried_gone (λ q. eqb q icmp) 1 (λ e. let two = code e in omega arith),
            carried_gone (λ q. eqb q icmp) 2 code,
          )

  -- A later fragment could have no more than its header.
  pub later_none : member 5 (present_set f p) ≡ true → may_begin f ≡ false → lacking f (present_set f p) ≡ 0
  unfolding chances shape each set_of may_carry
  later_none e later =
      let has : internet f ≡ true = sym (member_set_of (shape f) 5) ∙ (rw (present_set_lem f p) at e) in
      lacking_each ∙
      rw (later, and-false (may_be_internet f), type_gone has, header_gone has)

  -- A set of the fields present that has TCP's last field, ICMP's, or the ports of another protocol than TCP.
  pub flags_none : member 10 (present_set f p) ≡ true → lacking f (present_set f p) ≡ 0
  unfolding shape
  flags_none e =
      let q = eqb (protocol f) tcp in
      let there : (internet f && (q && leb 14 (length (transport f)))) ≡ true = sym (member_set_of (shape f) 10) ∙ (rw (present_set_lem f p) at e) in
      let rest = second (internet f) (q && leb 14 (length (transport f))) there in
      let long = leb-true 14 (length (transport f)) (second q (leb 14 (length (transport f))) rest) in
      cut_none (first (internet f) (q && leb 14 (length (transport f))) there) (λ _. omega arith) (λ _. long) (λ _. omega arith)

  pub code_none : member 12 (present_set f p) ≡ true → lacking f (present_set f p) ≡ 0
  unfolding shape
  code_none e =
      let q = eqb (protocol f) icmp in
      let there : (internet f && (q && leb 2 (length (transport f)))) ≡ true = sym (member_set_of (shape f) 12) ∙ (rw (present_set_lem f p) at e) in
      let rest = second (internet f) (q && leb 2 (length (transport f))) there in
      let long = leb-true 2 (length (transport f)) (second q (leb 2 (length (transport f))) rest) in
      let one : protocol f ≡ icmp = eqb-true (protocol f) icmp (first q (leb 2 (length (transport f))) rest) in
      cut_none (first (internet f) (q && leb 2 (length (transport f))) there)
      (λ (h : (eqb (protocol f) tcp || eqb (protocol f) udp) ≡ true). absurd (false≢true (rw one at h)))
      (λ (h : eqb (protocol f) tcp ≡ true). absurd (false≢true (rw one at h)))
      (λ _. long)

  -- Ports stand in a packet.
  ports_there : member 9 (present_set f p) ≡ true → (internet f && ((eqb (protocol f) tcp || eqb (protocol f) udp) && leb 4 (length (transport f)))) ≡ true
  unfolding shape
  ports_there e = sym (member_set_of (shape f) 9) ∙ (rw (present_set_lem f p) at e)

  pub ports_long : member 9 (present_set f p) ≡ true → 34 ≤ length f
  ports_long e = (internet_lengths f (first (internet f) ((eqb (protocol f) tcp || eqb (protocol f) udp) && leb 4 (length (transport f))) (ports_there e))).whole

  pub ports_none : member 9 (present_set f p) ≡ true → (protocol f ≡ tcp → ⊥) → lacking f (present_set f p) ≡ 0
  ports_none e other =
      let q = eqb (protocol f) tcp || eqb (protocol f) udp in
      let there = ports_there e in
      let rest = second (internet f) (q && leb 4 (length (transport f))) there in
      let long = leb-true 4 (length (transport f)) (second q (leb 4 (length (transport f))) rest) in
      cut_none (first (internet f) (q && leb 4 (length (transport f))) there)
      (λ _. long)
      (λ (h : eqb (protocol f) tcp ≡ true). absurd (other (eqb-true (protocol f) tcp h)))
      (λ _. omega arith)

  possible_beyond : (n : ℕ) → field_count ≤ n → possible f n ≡ false
  unfolding possible chances
  possible_beyond n l = get_or-eq_default (chances f) false l

  -- Of an absent field the set tells whether it could be there.
  absent_cut : (n : ℕ) → field f p n ≡ None → (b : Bool) → ltb n field_count ≡ b → (b && member n (cut_set f p)) ≡ possible f n
  unfolding cut_set seen is_present
  absent_cut n e false l = sym (possible_beyond n (ltb-false n field_count l))
  absent_cut n e true l =
      member_tally field_count (λ (k : ℕ). is_cut (seen f p k)) n ∙
      rw (l, is_cut_lem (possible f n) (field f p n), e) (and-true (possible f n))

  -- A header that was read once answers for every field what the definition answers, with none and cut apart.
  told_so : (n : ℕ) (r : Option ℕ) → field f p n ≡ r → seen_of (ltb n field_count && member n (cut_set f p)) r ≡ seen_of (possible f n) r
  unfolding seen_of
  told_so n (Some x) e = refl
  told_so n None e = ap (λ (b : Bool). cond b S.Cut S.None) (absent_cut n e (ltb n field_count) refl)

  pub seen_agrees : (old : List ℕ) → length old ≡ field_count → (n : ℕ) → seen_at (present_set f p) (cut_set f p) (filled (puts f p) old) n ≡ seen f p n
  unfolding seen_at seen
  seen_agrees old long n = rw (header_agrees f p old long n) (told_so n (field f p n) refl)

-- What a header that was read tells of one field: the reading, and of an absent one whether it is cut.
pub seen_at_reading : (s c : ℕ) (vs : List ℕ) (n : ℕ) → reading_of (seen_at s c vs n) ≡ reading_at s vs n
unfolding seen_at
seen_at_reading s c vs n = reading_so (ltb n field_count && member n c) (reading_at s vs n)

pub seen_at_cut : (s c : ℕ) (vs : List ℕ) (n : ℕ) → n < field_count → reading_at s vs n ≡ None → is_cut (seen_at s c vs n) ≡ member n c
unfolding seen_at is_present
seen_at_cut s c vs n l e =
    is_cut_lem (ltb n field_count && member n c) (reading_at s vs n) ∙ rw (e, lt-ltb n field_count l) (and-true (member n c))

-- A field that has a value is not cut.
pub value_uncut : (v : Seen) {x : ℕ} → reading_of v ≡ Some x → is_cut v ≡ false
unfolding reading_of is_cut
value_uncut (S.Has y) e = refl
value_uncut S.None e = refl
value_uncut S.Cut {x} e = let z : ◌≡◌ {A = ℕ} 0 1 = cc in absurd (omega arith)

-- The same of all fields at once.
pub seen_once :
    {f : List ℕ} {p c : ℕ} {old new : Header} →
    length old.values ≡ field_count →
    HeaderOf f p old new →
    c ≡ lacking f new.present →
    seen_at new.present c new.values ≡ seen f p
seen_once {f} {p} {c} {old} long h e =
    fun_ext (λ (n : ℕ). rw (e, h.set, h.words, cut_set_lem f p) (seen_agrees f p old.values long n))
