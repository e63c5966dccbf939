-- A question is never asked twice: whatever it came to, no test that is left asks all of it again, and no later residue does.
use Rattle.std.specs.Prelude.{ℕ, ◌+◌, ◌-◌, ◌<◌, ◌≡◌, true, false, ◌&&◌, eqb, leb, ltb, Option, Some}
use Rattle.std.proofs.Math.Path.{refl, ap}
use Rattle.std.proofs.Common.{sym, ◌∙◌, arith}
use Rattle.std.proofs.Math.Bool.{not}
use Rattle.std.proofs.lemmas.Bool.{false≢true}
use Rattle.std.specs.Int.Bits.{bit_and}
use Rattle.std.proofs.lemmas.Nat.{and_assoc, and_comm}
use borrow.Author.Tests.{eqb-true, eqb-false, ltb-false, leb-false, ne_eqb, eq-eqb, not-true}
use Rattle.residue.specs.Tests.{holds}
use Rattle.residue.specs.inner.Well.{well_formed}
use Rattle.residue.specs.Facts.{fails_fact, fact_of}
use Rattle.residue.specs.Residues.{outside, reduced_equal, reduced_differs, from_masked, from_equal, covers, from_differs, from_at_most, from_at_least, residue_by}
use Rattle.residue.specs.inner.Relations.{at_most_of, at_least_of, same_test}
use Rattle.residue.specs.inner.Relations.{every_left, masked_of, fewer, narrows, repeats, spent}
use Rattle.residue.specs.laws.Choice.{by_cond, never, both, first, second}
use Rattle.residue.specs.laws.Bits.{reduced_outside}
use Rattle.residue.specs.laws.Lines.{masked}
use Rattle.residue.specs.laws.Questions.{covers_self}
use Rattle.residue.specs.laws.Narrowing.{every_more, keep, settled_every, so_fewer, narrows_case, same_test_eq, residue_narrows}
use Rattle.residue.specs.declared.Test.{Test}
use Rattle.residue.specs.declared.Test.TheVariants.{Equal, Differs, AtMost, AtLeast}
use Rattle.residue.specs.declared.Outcome.{Outcome}
use Rattle.residue.specs.declared.Outcome.TheVariants as O
use Rattle.residue.specs.declared.Residue.{Residue}
use Rattle.residue.specs.declared.Residue.TheVariants.{True, False}

uncovered : (m v k w : ℕ) → (k ≡ 0 → ⊥) → not (covers (outside m k) v k w) ≡ true
unfolding covers
uncovered m v k w z =
    ap not
    (never (eqb (bit_and k (outside m k)) k && eqb (bit_and v k) w)
    (λ e. z (sym (eqb-true (bit_and k (outside m k)) k (first (eqb (bit_and k (outside m k)) k) (eqb (bit_and v k) w) e)) ∙ and_comm k (outside m k) ∙ reduced_outside m k)))

-- The question's own fact, line by line. Equal and differs give each other's facts, so q is either.
module _ (k w : ℕ) where
  masked_spent : (full : ℕ) → (k ≡ 0 → ⊥) → (t : Test) → every_left (spent (Equal k w)) (from_masked full k w t) ≡ true
  unfolding every_left spent repeats masked_of from_masked reduced_equal reduced_differs
  masked_spent full z (Equal m v) =
      by_cond (λ (d : Residue). every_left (spent (Equal k w)) d ≡ true) (eqb (bit_and v k) (bit_and w m))
      (λ _. keep (spent (Equal k w)) (Equal (outside m k) (outside v k)) (eqb (outside m k) 0) True refl (λ _. uncovered m (outside v k) k w z))
      (λ _. refl)
  masked_spent full z (Differs m v) =
      by_cond (λ (d : Residue). every_left (spent (Equal k w)) d ≡ true) (eqb (bit_and v k) (bit_and w m))
      (λ _. keep (spent (Equal k w)) (Differs (outside m k) (outside v k)) (eqb (outside m k) 0) False refl (λ _. uncovered m (outside v k) k w z))
      (λ _. refl)
  masked_spent full z (AtMost c) =
      by_cond (λ (d : Residue). every_left (spent (Equal k w)) d ≡ true) (ltb c w) (λ _. refl)
      (λ _. keep (spent (Equal k w)) (AtMost c) (leb (w + (full - k)) c) True refl (λ _. refl))
  masked_spent full z (AtLeast c) =
      by_cond (λ (d : Residue). every_left (spent (Equal k w)) d ≡ true) (leb c w) (λ _. refl)
      (λ _. keep (spent (Equal k w)) (AtLeast c) (ltb (w + (full - k)) c) False refl (λ _. refl))

  equal_spent : (full : ℕ) → (k ≡ 0 → ⊥) → (t : Test) → every_left (spent (Equal k w)) (from_equal full k w t) ≡ true
  unfolding from_equal
  equal_spent full z t =
      by_cond (λ (d : Residue). every_left (spent (Equal k w)) d ≡ true) (eqb k full)
      (λ _. settled_every (spent (Equal k w)) (holds t w))
      (λ _. masked_spent full z t)

  differs_spent : (t : Test) → every_left (spent (Equal k w)) (from_differs k w t) ≡ true
  unfolding every_left spent repeats masked_of from_differs
  differs_spent (Equal m v) = keep (spent (Equal k w)) (Equal m v) (covers m v k w) False refl (λ e. ap not e)
  differs_spent (Differs m v) = keep (spent (Equal k w)) (Differs m v) (covers m v k w) True refl (λ e. ap not e)
  differs_spent (AtMost c) = refl
  differs_spent (AtLeast c) = refl

module _ (c : ℕ) where
  -- At most c, once x ≤ c is known, or x ≥ b with b above c.
  at_most_spent : (t : Test) → every_left (spent (AtMost c)) (from_at_most c t) ≡ true
  unfolding every_left spent repeats at_most_of from_at_most
  at_most_spent (Equal m v) = keep (spent (AtMost c)) (Equal m v) (ltb c v) False refl (λ _. refl)
  at_most_spent (Differs m v) = keep (spent (AtMost c)) (Differs m v) (ltb c v) True refl (λ _. refl)
  at_most_spent (AtMost d) =
      keep (spent (AtMost c)) (AtMost d) (leb c d) True refl (λ e. ap not (ne_eqb c d (λ (q : c ≡ d). omega (arith, leb-false c d e))))
  at_most_spent (AtLeast d) = keep (spent (AtMost c)) (AtLeast d) (ltb c d) False refl (λ _. refl)

  above_spent : (full b : ℕ) → c < b → (t : Test) → every_left (spent (AtMost c)) (from_at_least full b t) ≡ true
  unfolding every_left spent repeats at_most_of from_at_least
  above_spent full b h (Equal m v) = keep (spent (AtMost c)) (Equal m v) (ltb (v + (full - m)) b) False refl (λ _. refl)
  above_spent full b h (Differs m v) = keep (spent (AtMost c)) (Differs m v) (ltb (v + (full - m)) b) True refl (λ _. refl)
  above_spent full b h (AtMost d) =
      keep (spent (AtMost c)) (AtMost d) (ltb d b) False refl (λ e. ap not (ne_eqb c d (λ (q : c ≡ d). omega (arith, ltb-false d b e))))
  above_spent full b h (AtLeast d) = keep (spent (AtMost c)) (AtLeast d) (leb d b) True refl (λ _. refl)

  -- At least c, once x ≥ c is known, or x ≤ b with b below c.
  at_least_spent : (full : ℕ) (t : Test) → every_left (spent (AtLeast c)) (from_at_least full c t) ≡ true
  unfolding every_left spent repeats at_least_of from_at_least
  at_least_spent full (Equal m v) = keep (spent (AtLeast c)) (Equal m v) (ltb (v + (full - m)) c) False refl (λ _. refl)
  at_least_spent full (Differs m v) = keep (spent (AtLeast c)) (Differs m v) (ltb (v + (full - m)) c) True refl (λ _. refl)
  at_least_spent full (AtMost d) = keep (spent (AtLeast c)) (AtMost d) (ltb d c) False refl (λ _. refl)
  at_least_spent full (AtLeast d) =
      keep (spent (AtLeast c)) (AtLeast d) (leb d c) True refl (λ e. ap not (ne_eqb c d (λ (q : c ≡ d). omega (arith, leb-false d c e))))

  below_spent : (b : ℕ) → b < c → (t : Test) → every_left (spent (AtLeast c)) (from_at_most b t) ≡ true
  unfolding every_left spent repeats at_least_of from_at_most
  below_spent b h (Equal m v) = keep (spent (AtLeast c)) (Equal m v) (ltb b v) False refl (λ _. refl)
  below_spent b h (Differs m v) = keep (spent (AtLeast c)) (Differs m v) (ltb b v) True refl (λ _. refl)
  below_spent b h (AtMost d) = keep (spent (AtLeast c)) (AtMost d) (leb b d) True refl (λ _. refl)
  below_spent b h (AtLeast d) =
      keep (spent (AtLeast c)) (AtLeast d) (ltb b d) False refl (λ e. ap not (ne_eqb c d (λ (q : c ≡ d). omega (arith, ltb-false b d e))))

fails_spent : (full : ℕ) (q t : Test) → well_formed full q ≡ true → every_left (spent q) (residue_by full (fails_fact full q) t) ≡ true
unfolding every_left spent repeats well_formed residue_by fails_fact
fails_spent full (Equal k w) t h = differs_spent k w t
fails_spent full (Differs k w) t h = equal_spent k w full (masked full k w h).some t
fails_spent full (AtMost c) t h =
    by_cond (λ (k : Option Test). every_left (spent (AtMost c)) (residue_by full k t) ≡ true) (leb full c) (λ _. refl)
    (λ _. above_spent c full (c + 1) (omega arith) t)
fails_spent full (AtLeast c) t h =
    by_cond (λ (k : Option Test). every_left (spent (AtLeast c)) (residue_by full k t) ≡ true) (eqb c 0) (λ _. refl)
    (λ e. let z = eqb-false c 0 e in below_spent c (c - 1) (omega arith) t)

holds_spent : (full : ℕ) (q t : Test) → well_formed full q ≡ true → every_left (spent q) (residue_by full (Some q) t) ≡ true
unfolding spent repeats well_formed residue_by
holds_spent full (Equal k w) t h = equal_spent k w full (masked full k w h).some t
holds_spent full (Differs k w) t h = differs_spent k w t
holds_spent full (AtMost c) t h = at_most_spent c t
holds_spent full (AtLeast c) t h = at_least_spent c full t

-- Whatever a question came to, no test that is left asks all of it.
pub question_spent : (full : ℕ) (o : Outcome) (q t : Test) → well_formed full q ≡ true → every_left (spent q) (residue_by full (fact_of full o q) t) ≡ true
unfolding every_left residue_by fact_of
question_spent full O.Holds q t h = holds_spent full q t h
question_spent full O.Fails q t h = fails_spent full q t h
question_spent full O.Absent q t h = refl

-- ---- and it stays so

covers_back : (k x m v n w : ℕ) → fewer m v n w ≡ true → covers n w k x ≡ true → covers m v k x ≡ true
unfolding covers
covers_back k x m v n w h e =
    let r = so_fewer m v n w h in
    let i = eqb-true (bit_and k n) k (first (eqb (bit_and k n) k) (eqb (bit_and w k) x) e) in
    let j = eqb-true (bit_and w k) x (second (eqb (bit_and k n) k) (eqb (bit_and w k) x) e) in
    both (eqb (bit_and k m) k) (eqb (bit_and v k) x)
    (eq-eqb (bit_and k m) k (ap (λ (y : ℕ). bit_and y m) (sym i) ∙ and_assoc m k n ∙ ap (bit_and k) r.bits ∙ i))
    (eq-eqb (bit_and v k) x (ap (bit_and v) (sym i ∙ and_comm k n) ∙ sym (and_assoc k v n) ∙ ap (λ (y : ℕ). bit_and y k) r.value ∙ j))

-- What a test on fewer bits repeats, the test repeats.
narrows_repeats : (q t u : Test) → narrows t u ≡ true → repeats q u ≡ true → repeats q t ≡ true
unfolding repeats masked_of at_most_of at_least_of
narrows_repeats (Equal k x) t u h =
    narrows_case (λ (a b : Test). repeats (Equal k x) b ≡ true → repeats (Equal k x) a ≡ true) (covers_back k x) (covers_back k x) (λ c e. e) (λ c e. e) t u h
narrows_repeats (Differs k x) t u h =
    narrows_case (λ (a b : Test). repeats (Differs k x) b ≡ true → repeats (Differs k x) a ≡ true) (covers_back k x) (covers_back k x) (λ c e. e) (λ c e. e) t u h
narrows_repeats (AtMost d) t u h =
    narrows_case (λ (a b : Test). repeats (AtMost d) b ≡ true → repeats (AtMost d) a ≡ true) (λ m v n w r e. e) (λ m v n w r e. e) (λ c e. e) (λ c e. e) t u h
narrows_repeats (AtLeast d) t u h =
    narrows_case (λ (a b : Test). repeats (AtLeast d) b ≡ true → repeats (AtLeast d) a ≡ true) (λ m v n w r e. e) (λ m v n w r e. e) (λ c e. e) (λ c e. e) t u h

pub spent_narrows : (q t u : Test) → narrows t u ≡ true → spent q t ≡ true → spent q u ≡ true
unfolding spent
spent_narrows q t u h e =
    ap not (never (repeats q u) (λ r. false≢true (sym (not-true (repeats q t) e) ∙ narrows_repeats q t u h r)))

-- A fact leaves of a test that does not ask all of q none that does.
pub spent_stays : (full : ℕ) (k : Option Test) (q t : Test) → well_formed full t ≡ true → spent q t ≡ true → every_left (spent q) (residue_by full k t) ≡ true
spent_stays full k q t h e = every_more (narrows t) (spent q) (residue_by full k t) (λ u r. spent_narrows q t u r e) (residue_narrows full k t h)

-- ---- so it is not the question

repeats_self : (full : ℕ) (q : Test) → well_formed full q ≡ true → repeats q q ≡ true
unfolding well_formed repeats masked_of at_most_of at_least_of
repeats_self full (Equal k w) h = covers_self full k w h
repeats_self full (Differs k w) h = covers_self full k w h
repeats_self full (AtMost c) h = eq-eqb c c refl
repeats_self full (AtLeast c) h = eq-eqb c c refl

pub spent_other : (full : ℕ) (q u : Test) → well_formed full q ≡ true → spent q u ≡ true → same_test u q ≡ false
unfolding spent
spent_other full q u h e =
    never (same_test u q)
    (λ s. false≢true (sym (not-true (repeats q u) e) ∙ ap (repeats q) (same_test_eq u q s) ∙ repeats_self full q h))
