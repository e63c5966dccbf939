-- From the tests of single bytes to a longer frame: one frame that goes on shows what could be there.
--   model q i      byte i of an IPv4 header of 20 bytes without a length, with the protocol q
--   grown_at        byte i of that frame: total length 74, the bytes of f, behind them the model's
--   grown f q      the whole of it: 88 bytes longer than f, so a header of any length and 14 bytes more are in it
use Rattle.std.specs.Prelude.{ℕ, ◌+◌, ◌/◌, ◌%◌, ◌≤◌, ◌<◌, ◌≡◌, Bool, true, false, cond, ◌&&◌, List, length}
use native.Mathlib.Omega.{arith}
use Rattle.std.proofs.Math.Path.{refl}
use borrow.Author.Tests.{leb-true, le-leb, lt-leb, ltb-true, ltb-false, lt-ltb, eqb-true, eq-eqb, ne_eqb}
use Rattle.std.proofs.Math.Dec.{leb, ltb, eqb, lit<}
use Rattle.std.proofs.Common.{length-take, length-drop, Fits}
use Rattle.std.proofs.Math.ListN.{get_or-eq_default}
use mir.Syntax.{w8}
use Rattle.residue.specs.laws.Choice.{by_test, by_cond, both, first, second}
use Rattle.sets.specs.Sets.{tally}
use Rattle.sets.specs.laws.Members.{length_tally, get_or_tally}
use Rattle.fields.specs.Bytes.{byte, two, Bytes}
use Rattle.fields.specs.Ethernet.{ip_start, ether_type, ethernet}
use Rattle.fields.specs.Ipv4.{internet, version, header_length, total_length, protocol, transport_start, transport_end, transport}
use Rattle.fields.specs.Cut.{Grows}
use Rattle.fields.specs.Seen.{could, may_be_type, may_be_internet, may_begin, may_carry}

abbrev pub model : ℕ → ℕ → ℕ
model q i = cond (eqb i 12) 8 (cond (eqb i 14) 69 (cond (eqb i 23) q 0))

unfoldable pub grown_at : List ℕ → ℕ → ℕ → ℕ
grown_at f q i = cond (eqb i 16) 0 (cond (eqb i 17) 74 (cond (ltb i (length f)) (byte f i) (model q i)))

unfoldable pub grown : List ℕ → ℕ → List ℕ
grown f q = tally (length f + 88) (grown_at f q)

module _ (f : List ℕ) (q : ℕ) where
  grown_long : length (grown f q) ≡ length f + 88
  unfolding grown
  grown_long = length_tally (length f + 88) (grown_at f q)

  grown_byte : (i : ℕ) → i < length f + 88 → byte (grown f q) i ≡ grown_at f q i
  unfolding grown
  grown_byte i l = get_or_tally (length f + 88) (grown_at f q) 0 i l

  -- A test that byte i could pass, and that the model passes, is passed.
  met :
      (i : ℕ) (p : ℕ → Bool) → i < 88 → eqb i 16 ≡ false → eqb i 17 ≡ false → p (model q i) ≡ true → could f i p ≡ true →
      p (byte (grown f q) i) ≡ true
  unfolding could grown_at
  met i p l n m passes h =
      rw (grown_byte i (omega arith), n, m)
      (by_cond (λ (x : ℕ). p x ≡ true) (ltb i (length f))
      (λ (e : ltb i (length f) ≡ true). rw (lt-leb (length f) i (ltb-true i (length f) e)) at h)
      (λ e. passes))

  module _ (known : Bytes f) (small : q < 256) where
    at_fits : (i : ℕ) → Fits w8 (grown_at f q i)
    unfolding grown_at
    at_fits i =
        by_cond (Fits w8) (eqb i 16) (λ e. record { fits = lit< tt })
        (λ e. by_cond (Fits w8) (eqb i 17) (λ e. record { fits = lit< tt })
        (λ e. by_cond (Fits w8) (ltb i (length f)) (λ e. known i)
        (λ e. by_cond (Fits w8) (eqb i 12) (λ e. record { fits = lit< tt })
        (λ e. by_cond (Fits w8) (eqb i 14) (λ e. record { fits = lit< tt })
        (λ e. by_cond (Fits w8) (eqb i 23) (λ e. record { fits = small }) (λ e. record { fits = lit< tt }))))))

    pub grown_grows : Grows f (grown f q)
    unfolding grown_at
    grown_grows =
        record {
          bytes = λ i. by_test (Fits w8 (byte (grown f q) i)) (ltb i (length f + 88))
              (λ e. rw (grown_byte i (ltb-true i (length f + 88) e)) (at_fits i))
              (λ e. rw (get_or-eq_default (grown f q) 0 {n = i} (rw grown_long (ltb-false i (length f + 88) e))) (record { fits = lit< tt }));
          longer = omega (arith, grown_long);
          begins = λ i l n m. rw (grown_byte i (omega arith), ne_eqb i 16 n, ne_eqb i 17 m, lt-ltb i (length f) l);
        }

  total : total_length (grown f q) ≡ 74
  unfolding total_length two grown_at
  total = rw (grown_byte 16 (omega arith), grown_byte 17 (omega arith))

  pub grown_type : may_be_type f ≡ true → ethernet (grown f q) ≡ true
  unfolding may_be_type ethernet two
  grown_type h =
      let high = leb-true 6 (byte (grown f q) 12) (met 12 (λ x. leb 6 x) (omega arith) refl refl refl h) in
      both _ _
      (le-leb ip_start (length (grown f q)) (omega (arith, grown_long)))
      (le-leb 1536 (ether_type (grown f q)) (omega arith))

  -- What the first three of its bytes that are tested pass.
  record Tested : Type 0 where
    pub type : ether_type (grown f q) ≡ 0x0800
    pub four : version (grown f q) ≡ 4
    pub least : 20 ≤ header_length (grown f q)
    pub most : header_length (grown f q) ≤ 60

  tested : may_be_internet f ≡ true → Tested
  unfolding may_be_internet two version header_length
  tested h =
      let c1 = could f 12 (λ x. eqb x 8) in
      let c2 = could f 13 (λ x. eqb x 0) in
      let h2 = first (c1 && c2) _ h in
      let x = byte (grown f q) 14 in
      let fourth = met 14 (λ x. eqb (x / 16) 4 && leb 5 (x % 16)) (omega arith) refl refl refl (second (c1 && c2) _ h) in
      let b12 = eqb-true (byte (grown f q) 12) 8 (met 12 (λ x. eqb x 8) (omega arith) refl refl refl (first c1 c2 h2)) in
      let b13 = eqb-true (byte (grown f q) 13) 0 (met 13 (λ x. eqb x 0) (omega arith) refl refl refl (second c1 c2 h2)) in
      let low = leb-true 5 (x % 16) (second (eqb (x / 16) 4) (leb 5 (x % 16)) fourth) in
      record {
        type = omega arith;
        four = eqb-true (x / 16) 4 (first (eqb (x / 16) 4) (leb 5 (x % 16)) fourth);
        least = omega arith;
        most = omega arith;
      }

  pub grown_internet : may_be_internet f ≡ true → internet (grown f q) ≡ true
  unfolding internet
  grown_internet h =
      let known = tested h in
      let long = grown_long in
      let all = total in
      simp (
        eq-eqb (ether_type (grown f q)) 0x0800 known.type,
        le-leb 34 (length (grown f q)) (omega arith),
        eq-eqb (version (grown f q)) 4 known.four,
        le-leb 20 (header_length (grown f q)) known.least,
        le-leb (header_length (grown f q)) (total_length (grown f q)) (omega arith),
        le-leb (ip_start + total_length (grown f q)) (length (grown f q)) (omega arith),
      )

  -- Its fragment's offset is 0, so its transport part has 14 bytes at the least.
  offset : may_begin f ≡ true → two (grown f q) 20 % 8192 ≡ 0
  unfolding may_begin two
  offset h =
      let c1 = could f 20 (λ x. eqb (x % 32) 0) in
      let c2 = could f 21 (λ x. eqb x 0) in
      let b20 = eqb-true (byte (grown f q) 20 % 32) 0 (met 20 (λ x. eqb (x % 32) 0) (omega arith) refl refl refl (first c1 c2 h)) in
      let b21 = eqb-true (byte (grown f q) 21) 0 (met 21 (λ x. eqb x 0) (omega arith) refl refl refl (second c1 c2 h)) in
      omega arith

  grown_part : may_be_internet f ≡ true → may_begin f ≡ true → 14 ≤ length (transport (grown f q))
  unfolding transport transport_start transport_end
  grown_part h b =
      let known = tested h in
      let long = grown_long in
      let all = total in
      rw (eq-eqb (two (grown f q) 20 % 8192) 0 (offset b)) (simp (length-take, length-drop) (omega arith))

  pub grown_carries :
      (p : ℕ → Bool) (k : ℕ) → p q ≡ true → k ≤ 14 → may_carry f p ≡ true →
      (internet (grown f q) && (p (protocol (grown f q)) && leb k (length (transport (grown f q))))) ≡ true
  unfolding may_carry protocol
  grown_carries p k passes few h =
      let header = first (may_be_internet f) (may_begin f) (first (may_be_internet f && may_begin f) (could f 23 p) h) in
      let begin = second (may_be_internet f) (may_begin f) (first (may_be_internet f && may_begin f) (could f 23 p) h) in
      let long = grown_part header begin in
      both _ _ (grown_internet header)
      (both _ _
      (met 23 p (omega arith) refl refl passes (second (may_be_internet f && may_begin f) (could f 23 p) h))
      (le-leb k (length (transport (grown f q))) (omega arith)))
