-- What a frame's fields depend on: its length and the bytes that may steer the box (document 02, P9). Frames that agree there have
-- each field alike: the same value, or none, or cut.
use Rattle.std.specs.Prelude.{ℕ, ◌≤◌, ◌<◌, ◌+◌, ◌≡◌, Bool, true, false, List, leb, length}
use Rattle.std.proofs.Common.{arith, ◌∙◌, leb-true, leb-false, length-take}
use Rattle.std.proofs.Math.Path.{ap₂, sym}
use Rattle.std.proofs.Math.ListN.{length-drop, get_or-eq_default}
use Rattle.residue.specs.laws.Choice.{by_test}
use Rattle.fields.specs.Bytes.{byte, two, four}
use Rattle.fields.specs.Ethernet.{ethernet}
use Rattle.fields.specs.Ipv4.{internet, version, header_length, total_length, protocol, internet_puts, transport_start, transport_end, transport}
use Rattle.fields.specs.Transport.{transport_puts}
use Rattle.fields.specs.Fields.{puts, readings, field}
use Rattle.fields.specs.Seen.{could, may_be_type, may_be_internet, may_begin, may_carry, chances, possible, seen_of, seen}
use Rattle.fields.specs.Steering.{steering, SteerAlike}
use Rattle.fields.proofs.laws.Bytes.{part_byte}
use Rattle.fields.proofs.laws.Ipv4.{internet_lengths}

two_agree : (f g : List ℕ) (i : ℕ) → byte f i ≡ byte g i → byte f (i + 1) ≡ byte g (i + 1) → two f i ≡ two g i
unfolding two
two_agree f g i h l = rw (h, l)

-- A transport part by its length and its first fourteen bytes.
part_agrees :
    (q : ℕ) (t u : List ℕ) → length t ≡ length u → ((i : ℕ) → i < 14 → byte t i ≡ byte u i) → transport_puts q t ≡ transport_puts q u
unfolding transport_puts
part_agrees q t u long at =
    simp (
      long,
      two_agree t u 0 (at 0 (omega arith)) (at 1 (omega arith)),
      two_agree t u 2 (at 2 (omega arith)) (at 3 (omega arith)),
      at 13 (omega arith),
      at 0 (omega arith),
      at 1 (omega arith),
    )

-- No fewer bytes may steer than the shortest IPv4 header takes; with IPv4 fields fourteen behind the header do.
steering_least : (f : List ℕ) → 34 ≤ steering f
unfolding steering
steering_least f =
    by_test (34 ≤ steering f) (internet f)
    (λ (has : internet f ≡ true). rw has (omega (arith, (internet_lengths f has).least)))
    (λ (lacks : internet f ≡ false). rw lacks (omega arith))

steering_part : (f : List ℕ) → internet f ≡ true → transport_start f + 14 ≤ steering f
unfolding steering transport_start
steering_part f has = rw has (omega arith)

module _ (f g : List ℕ) (alike : SteerAlike f g) where
  long : length f ≡ length g
  long = alike.long

  -- Behind the end of both there is 0.
  steered : (i : ℕ) → i < steering f → byte f i ≡ byte g i
  steered i h =
      by_test (byte f i ≡ byte g i) (leb (length f) i)
      (λ (e : leb (length f) i ≡ true).
      let behind = leb-true (length f) i e in
      let too : length g ≤ i = rw (sym long) behind in
      get_or-eq_default f 0 behind ∙ sym (get_or-eq_default g 0 too))
      (λ (e : leb (length f) i ≡ false). alike.agree i h (omega (arith, leb-false (length f) i e)))

  at : (i : ℕ) → i < 34 → byte f i ≡ byte g i
  at i h = steered i (omega (arith, steering_least f))

  two_at : (i : ℕ) → i + 1 < 34 → two f i ≡ two g i
  two_at i h = two_agree f g i (at i (omega arith)) (at (i + 1) h)

  four_at : (i : ℕ) → i + 3 < 34 → four f i ≡ four g i
  unfolding four
  four_at i h = rw (two_at i (omega arith), two_at (i + 2) (omega arith))

  ethernet_agrees : ethernet f ≡ ethernet g
  unfolding ethernet
  ethernet_agrees = simp (long, two_at 12 (omega arith))

  header_agrees : header_length f ≡ header_length g
  unfolding header_length
  header_agrees = rw (at 14 (omega arith))

  total_agrees : total_length f ≡ total_length g
  unfolding total_length
  total_agrees = two_at 16 (omega arith)

  protocol_agrees : protocol f ≡ protocol g
  unfolding protocol
  protocol_agrees = at 23 (omega arith)

  internet_agrees : internet f ≡ internet g
  unfolding internet version
  internet_agrees =
      simp (long, two_at 12 (omega arith), at 14 (omega arith), header_agrees, total_agrees)

  internet_puts_agree : internet_puts f ≡ internet_puts g
  unfolding internet_puts
  internet_puts_agree =
      simp (
        total_agrees,
        protocol_agrees,
        at 15 (omega arith),
        two_at 20 (omega arith),
        at 22 (omega arith),
        four_at 26 (omega arith),
        four_at 30 (omega arith),
      )

  start_agrees : transport_start f ≡ transport_start g
  unfolding transport_start
  start_agrees = rw header_agrees

  end_agrees : transport_end f ≡ transport_end g
  unfolding transport_end
  end_agrees = simp (total_agrees, start_agrees, two_at 20 (omega arith))

  length_agrees : length (transport f) ≡ length (transport g)
  unfolding transport
  length_agrees = simp (length-take, length-drop, long, start_agrees, end_agrees)

  part_at : internet f ≡ true → (i : ℕ) → i < 14 → byte (transport f) i ≡ byte (transport g) i
  unfolding transport
  part_at has i h =
      let there = steered (transport_start f + i) (omega (arith, steering_part f has)) in
      part_byte f (transport_start f) (transport_end f) i ∙
      rw (there, start_agrees, end_agrees) (sym (part_byte g (transport_start g) (transport_end g) i))

  puts_agree : (p : ℕ) → puts f p ≡ puts g p
  unfolding puts
  puts_agree p =
      by_test (puts f p ≡ puts g p) (internet f)
      (λ (has : internet f ≡ true).
      let too = sym internet_agrees ∙ has in
      simp (
        has,
        too,
        ethernet_agrees,
        two_at 12 (omega arith),
        internet_puts_agree,
        protocol_agrees,
        part_agrees (protocol g) (transport f) (transport g) length_agrees (part_at has),
      ))
      (λ (lacks : internet f ≡ false).
      let too = sym internet_agrees ∙ lacks in
      simp (lacks, too, ethernet_agrees, two_at 12 (omega arith)))

  field_agrees : (p n : ℕ) → field f p n ≡ field g p n
  unfolding field readings
  field_agrees p n = rw (puts_agree p)

  -- What could be there in a longer frame.
  could_agrees : (i : ℕ) → i < 34 → (p : ℕ → Bool) → could f i p ≡ could g i p
  unfolding could
  could_agrees i h p = rw (long, at i h)

  type_may : may_be_type f ≡ may_be_type g
  unfolding may_be_type
  type_may = could_agrees 12 (omega arith) _

  internet_may : may_be_internet f ≡ may_be_internet g
  unfolding may_be_internet
  internet_may = rw (could_agrees 12 (omega arith), could_agrees 13 (omega arith), could_agrees 14 (omega arith))

  begin_may : may_begin f ≡ may_begin g
  unfolding may_begin
  begin_may = rw (could_agrees 20 (omega arith), could_agrees 21 (omega arith))

  carry_may : (p : ℕ → Bool) → may_carry f p ≡ may_carry g p
  unfolding may_carry
  carry_may p = rw (internet_may, begin_may, could_agrees 23 (omega arith) p)

  chances_agree : chances f ≡ chances g
  unfolding chances
  chances_agree = simp (type_may, internet_may, carry_may)

  possible_agrees : (n : ℕ) → possible f n ≡ possible g n
  unfolding possible
  possible_agrees n = rw chances_agree

  pub seen_alike : (p n : ℕ) → seen f p n ≡ seen g p n
  unfolding seen
  seen_alike p n = ap₂ seen_of (possible_agrees n) (field_agrees p n)
