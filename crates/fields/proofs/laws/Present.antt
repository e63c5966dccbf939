-- Which fields a frame has, by the tests of its headers: a list of truths in place of readings.
--   marks rs       of each reading whether it is a value
--   shape f        the tests of each field, by number
use Rattle.std.specs.Prelude.{ℕ, zero, suc, ◌+◌, ◌*◌, ◌/◌, ◌%◌, ◌^◌, ◌<◌, max, ◌≡◌, Bool, true, false, ◌&&◌, ◌||◌, leb, ltb, eqb, length, set, replicate, Option, None, Some}
use Rattle.std.proofs.Common.{not-suc-le-zero, le_of_suc-le-suc, pow-suc, arith, ap₂, sym, ◌∙◌, ltb-true, length-set}
use Rattle.std.proofs.Math.Path.{refl, ap}
use Rattle.std.proofs.Math.Bool.{or-true, or-false, and_assoc}
use mathlib.Core.List.{List, [], ◌∷◌, ◌++◌}
use Rattle.std.specs.Int.Bits.{bit_or, or_step, or_zero_r}
use Rattle.std.proofs.Math.ListN.{get_or}
use Rattle.std.proofs.lemmas.List.{set-get_or}
use Rattle.residue.specs.laws.Choice.{first, second}
use Rattle.sets.specs.Sets.{bit, set_of}
use Rattle.sets.specs.laws.Members.{set_of_half, set_of_odd}
use Rattle.fields.specs.Widths.{field_count}
use Rattle.fields.specs.Bytes.{byte, two}
use Rattle.fields.specs.Puts.{Put, only_if, put_all}
use Rattle.fields.specs.Ethernet.{ether_type, ethernet}
use Rattle.fields.specs.Ipv4.{internet, internet_puts, protocol, transport}
use Rattle.fields.specs.Transport.{tcp, udp, icmp, transport_puts}
use Rattle.fields.specs.Fields.{puts, readings, field}
use Rattle.fields.specs.Header.{noted, present_set}
use Rattle.fields.specs.Cut.{is_present}

unfoldable marks : List (Option ℕ) → List Bool
marks [] = []
marks (r ∷ rs) = is_present r ∷ marks rs

marks_at : (rs : List (Option ℕ)) (n : ℕ) → is_present (get_or rs n None) ≡ get_or (marks rs) n false
unfolding marks is_present
marks_at [] n = refl
marks_at (r ∷ rs) zero = refl
marks_at (r ∷ rs) (suc n) = marks_at rs n

marks_set : (rs : List (Option ℕ)) (n x : ℕ) → marks (set rs n (Some x)) ≡ set (marks rs) n true
unfolding marks is_present
marks_set [] n x = refl
marks_set (r ∷ rs) zero x = refl
marks_set (r ∷ rs) (suc n) x = ap (λ (bs : List Bool). is_present r ∷ bs) (marks_set rs n x)

-- The numbers of puts are marked where a test holds.
unfoldable ticked : Bool → List Put → List Bool → List Bool
ticked b [] bs = bs
ticked b ((n, x) ∷ ps) bs = ticked b ps (set bs n (get_or bs n false || b))

put_marks : (ps : List Put) (rs : List (Option ℕ)) → marks (put_all ps rs) ≡ ticked true ps (marks rs)
unfolding put_all ticked
put_marks [] rs = refl
put_marks ((n, x) ∷ ps) rs = put_marks ps (set rs n (Some x)) ∙ rw (marks_set rs n x, or-true (get_or (marks rs) n false))

unticked : (ps : List Put) (bs : List Bool) → ticked false ps bs ≡ bs
unfolding ticked
unticked [] bs = refl
unticked ((n, x) ∷ ps) bs = rw (or-false (get_or bs n false), set-get_or bs n false) (unticked ps bs)

ticked_both : (b : Bool) (ps qs : List Put) (bs : List Bool) → ticked b (ps ++ qs) bs ≡ ticked b qs (ticked b ps bs)
unfolding ticked
ticked_both b [] qs bs = refl
ticked_both b ((n, x) ∷ ps) qs bs = ticked_both b ps qs (set bs n (get_or bs n false || b))

ticked_if : (b c : Bool) (ps : List Put) (bs : List Bool) → ticked b (only_if c ps) bs ≡ ticked (b && c) ps bs
unfolding ticked
ticked_if true true ps bs = refl
ticked_if true false ps bs = sym (unticked ps bs)
ticked_if false c ps bs = unticked (only_if c ps) bs ∙ sym (unticked ps bs)

-- The numbers of a frame's puts, header by header.
frame_ticks :
    (e i : Bool) (box type header : List Put) (q : ℕ) (t : List ℕ) (bs : List Bool) →
    ticked true (box ++ only_if e type ++ only_if i (header ++ transport_puts q t)) bs ≡
    ticked (i && (eqb q icmp && leb 2 (length t))) ((12, byte t 1) ∷ [])
    (ticked (i && (eqb q icmp && leb 1 (length t))) ((11, byte t 0) ∷ [])
    (ticked (i && (eqb q tcp && leb 14 (length t))) ((10, byte t 13) ∷ [])
    (ticked (i && ((eqb q tcp || eqb q udp) && leb 4 (length t))) ((8, two t 0) ∷ (9, two t 2) ∷ [])
    (ticked i header (ticked e type (ticked true box bs))))))
unfolding transport_puts
frame_ticks e i box type header q t bs = simp (ticked_both, ticked_if)

unfoldable pub shape : List ℕ → List Bool
shape f =
    let header = internet f in
    let q = protocol f in
    let long = length (transport f) in
    let ports = header && ((eqb q tcp || eqb q udp) && leb 4 long) in
    let flags = header && (eqb q tcp && leb 14 long) in
    let type = header && (eqb q icmp && leb 1 long) in
    let code = header && (eqb q icmp && leb 2 long) in
    ethernet f ∷
    header ∷ header ∷ header ∷ header ∷ header ∷ header ∷ header ∷
    ports ∷ ports ∷ flags ∷ type ∷ code ∷
    true ∷ []

abbrev falses : List Bool
falses = replicate field_count false

-- The set of the fields present has the same truths: a put's number is that of a field.
unfoldable below : ℕ → List Put → Bool
below k [] = true
below k ((n, x) ∷ ps) = ltb n k && below k ps

below_both : (k : ℕ) (ps qs : List Put) → below k (ps ++ qs) ≡ (below k ps && below k qs)
unfolding below
below_both k [] qs = refl
below_both k ((n, x) ∷ ps) qs = rw (below_both k ps qs) (sym (and_assoc (ltb n k) (below k ps) (below k qs)))

below_if : (k : ℕ) (b : Bool) (ps : List Put) → below k ps ≡ true → below k (only_if b ps) ≡ true
unfolding below
below_if k true ps h = h
below_if k false ps h = refl

four_below :
    (a b c d : Bool) (ps qs rs ts : List Put) →
    below field_count ps ≡ true → below field_count qs ≡ true → below field_count rs ≡ true → below field_count ts ≡ true →
    below field_count (only_if a ps ++ only_if b qs ++ only_if c rs ++ only_if d ts) ≡ true
four_below a b c d ps qs rs ts hp hq hr ht =
    rw (
      below_both field_count (only_if a ps ++ only_if b qs ++ only_if c rs) (only_if d ts),
      below_both field_count (only_if a ps ++ only_if b qs) (only_if c rs),
      below_both field_count (only_if a ps) (only_if b qs),
      below_if field_count a ps hp,
      below_if field_count b qs hq,
      below_if field_count c rs hr,
      below_if field_count d ts ht,
    )

part_below : (q : ℕ) (t : List ℕ) → below field_count (transport_puts q t) ≡ true
unfolding transport_puts below
part_below q t =
    four_below ((eqb q tcp || eqb q udp) && leb 4 (length t)) (eqb q tcp && leb 14 (length t)) (eqb q icmp && leb 1 (length t)) (eqb q icmp && leb 2 (length t))
    ((8, two t 0) ∷ (9, two t 2) ∷ []) ((10, byte t 13) ∷ []) ((11, byte t 0) ∷ []) ((12, byte t 1) ∷ []) refl refl refl refl

frame_below :
    (e i : Bool) (box type header rest : List Put) →
    below field_count box ≡ true → below field_count type ≡ true → below field_count header ≡ true → below field_count rest ≡ true →
    below field_count (box ++ only_if e type ++ only_if i (header ++ rest)) ≡ true
frame_below e i box type header rest hb ht hh hr =
    let packet : below field_count (header ++ rest) ≡ true = rw (below_both field_count header rest, hh, hr) in
    rw (
      below_both field_count (box ++ only_if e type) (only_if i (header ++ rest)),
      below_both field_count box (only_if e type),
      hb,
      below_if field_count e type ht,
      below_if field_count i (header ++ rest) packet,
    )

max_one : (b : Bool) → max (bit b) 1 ≡ 1
max_one true = refl
max_one false = refl

max_zero : (b : Bool) → max (bit b) 0 ≡ bit b
max_zero true = refl
max_zero false = refl

or_one : (bs : List Bool) (n : ℕ) → n < length bs → bit_or (set_of bs) (2 ^ n) ≡ set_of (set bs n true)
unfolding set_of
or_one [] n l = absurd (not-suc-le-zero l)
or_one (b ∷ bs) zero l =
    or_step (set_of (b ∷ bs)) 1 ∙
    ap₂ (λ (x y : ℕ). x * 2 + y)
    (ap (λ (x : ℕ). bit_or x 0) (set_of_half b bs) ∙ or_zero_r (set_of bs))
    (ap (λ (x : ℕ). max x 1) (set_of_odd b bs) ∙ max_one b)
or_one (b ∷ bs) (suc n) l =
    let half : 2 ^ suc n / 2 ≡ 2 ^ n = omega (arith, pow-suc 2 n) in
    let even : 2 ^ suc n % 2 ≡ 0 = omega (arith, pow-suc 2 n) in
    or_step (set_of (b ∷ bs)) (2 ^ suc n) ∙
    ap₂ (λ (x y : ℕ). x * 2 + y)
    (ap₂ bit_or (set_of_half b bs) half ∙ or_one bs n (le_of_suc-le-suc l))
    (ap₂ max (set_of_odd b bs) even ∙ max_zero b)

noted_ticks : (ps : List Put) (bs : List Bool) → below (length bs) ps ≡ true → noted ps (set_of bs) ≡ set_of (ticked true ps bs)
unfolding below noted ticked
noted_ticks [] bs h = refl
noted_ticks ((n, x) ∷ ps) bs h =
    let within = ltb-true n (length bs) (first (ltb n (length bs)) (below (length bs) ps) h) in
    rw (or_one bs n within, or-true (get_or bs n false))
    (noted_ticks ps (set bs n true) (rw (length-set bs n true) (second (ltb n (length bs)) (below (length bs) ps) h)))

module _ (f : List ℕ) (p : ℕ) where
  ticks : ticked true (puts f p) falses ≡ shape f
  unfolding puts shape ticked internet_puts
  ticks = frame_ticks (ethernet f) (internet f) ((13, p) ∷ []) ((0, ether_type f) ∷ []) (internet_puts f) (protocol f) (transport f) falses

  pub present_at : (n : ℕ) → is_present (field f p n) ≡ get_or (shape f) n false
  unfolding field readings marks is_present
  present_at n =
      marks_at (readings f p) n ∙
      ap (λ (bs : List Bool). get_or bs n false) (put_marks (puts f p) (replicate field_count None) ∙ ticks)

  numbers_below : below field_count (puts f p) ≡ true
  unfolding puts internet_puts below
  numbers_below =
      frame_below (ethernet f) (internet f) ((13, p) ∷ []) ((0, ether_type f) ∷ []) (internet_puts f) (transport_puts (protocol f) (transport f))
      refl refl refl (part_below (protocol f) (transport f))

  pub present_set_lem : present_set f p ≡ set_of (shape f)
  unfolding present_set set_of
  present_set_lem = noted_ticks (puts f p) falses numbers_below ∙ ap set_of ticks
