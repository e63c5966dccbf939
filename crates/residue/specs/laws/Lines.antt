-- Each line of document 01's residues says what is so: given the fact of a number x, an equal test (mask m, value v) or a bound.
-- Differs is the opposite of equal, so each law on equal serves both.
use Rattle.std.specs.Prelude.{ℕ, ◌+◌, ◌-◌, ◌^◌, ◌≤◌, ◌≡◌, true, false, not, ◌&&◌, eqb, leb, ltb}
use Rattle.std.proofs.Common.{sym, ap, ◌∙◌, arith, eqb-true, ltb-true, leb-true, ne_eqb, eq-eqb}
use Rattle.std.specs.Int.Bits.{bit_and, and_zero_r}
use Rattle.std.proofs.lemmas.Nat.{and_assoc, and_comm, and_le_l}
use Rattle.std.proofs.lemmas.Bool.{eqb-false, not-true}
use Rattle.residue.specs.inner.Well.{well_masked}
use Rattle.residue.specs.Residues.{outside, covers}
use Rattle.residue.specs.laws.Choice.{first, second, same_eqb}
use Rattle.residue.specs.laws.Bits.{and_swap, and_outside, and_add_outside, le_and_add}

-- What refusals 7 to 9 leave of a mask and a value.
pub record Masked (full m v : ℕ) : Type 0 where
  pub some : m ≡ 0 → ⊥
  pub mask : m ≤ full
  pub value : v ≤ full
  pub inside : bit_and v m ≡ v

pub masked : (full m v : ℕ) → well_masked full m v ≡ true → Masked full m v
unfolding well_masked
masked full m v e =
    let abc = first (not (eqb m 0) && leb m full && leb v full) (eqb (bit_and v m) v) e in
    let ab = first (not (eqb m 0) && leb m full) (leb v full) abc in
    record {
      some = eqb-false m 0 (not-true (eqb m 0) (first (not (eqb m 0)) (leb m full) ab));
      mask = leb-true m full (second (not (eqb m 0)) (leb m full) ab);
      value = leb-true v full (second (not (eqb m 0) && leb m full) (leb v full) abc);
      inside = eqb-true (bit_and v m) v (second (not (eqb m 0) && leb m full && leb v full) (eqb (bit_and v m) v) e);
    }

-- x & k = w.
module _ (x k w : ℕ) (e : bit_and x k ≡ w) (m v : ℕ) where
  meet : bit_and (bit_and x m) k ≡ bit_and w m
  meet = and_swap x m k ∙ ap (λ (y : ℕ). bit_and y m) e

  pub masked_clash : eqb (bit_and v k) (bit_and w m) ≡ false → eqb (bit_and x m) v ≡ false
  masked_clash h = ne_eqb (bit_and x m) v (λ q. eqb-false (bit_and v k) (bit_and w m) h (ap (λ (y : ℕ). bit_and y k) (sym q) ∙ meet))

  pub masked_left : eqb (bit_and v k) (bit_and w m) ≡ true → eqb (bit_and x m) v ≡ eqb (bit_and x (outside m k)) (outside v k)
  masked_left h =
      same_eqb (bit_and x m) v (bit_and x (outside m k)) (outside v k)
      (λ q. and_outside x m k ∙ ap (λ (y : ℕ). outside y k) q)
      (λ (q : bit_and x (outside m k) ≡ outside v k).
      omega (arith, and_outside x m k, q, and_add_outside (bit_and x m) k, and_add_outside v k, meet, eqb-true (bit_and v k) (bit_and w m) h))

-- No bits left of the mask, none left of a value inside it.
pub none_left : (x m v k : ℕ) → bit_and v m ≡ v → eqb (outside m k) 0 ≡ true → eqb (bit_and x (outside m k)) (outside v k) ≡ true
none_left x m v k i h =
    let z = eqb-true (outside m k) 0 h in
    let gone = ap (λ (y : ℕ). outside y k) (sym i) ∙ sym (and_outside v m k) ∙ ap (bit_and v) z ∙ and_zero_r v in
    eq-eqb (bit_and x (outside m k)) (outside v k) (ap (bit_and x) z ∙ and_zero_r x ∙ sym gone)

-- x & k ≠ w, where equal (m, v) asks for x & k = w.
pub differs_clash : (x k w m v : ℕ) → (bit_and x k ≡ w → ⊥) → covers m v k w ≡ true → eqb (bit_and x m) v ≡ false
unfolding covers
differs_clash x k w m v h e =
    let i = eqb-true (bit_and k m) k (first (eqb (bit_and k m) k) (eqb (bit_and v k) w) e) in
    let j = eqb-true (bit_and v k) w (second (eqb (bit_and k m) k) (eqb (bit_and v k) w) e) in
    ne_eqb (bit_and x m) v
    (λ q. h (ap (bit_and x) (sym i ∙ and_comm k m) ∙ sym (and_assoc k x m) ∙ ap (λ (y : ℕ). bit_and y k) q ∙ j))

-- x ≤ b, where v is above b.
pub at_most_clash : (x b m v : ℕ) → x ≤ b → ltb b v ≡ true → eqb (bit_and x m) v ≡ false
at_most_clash x b m v h e = ne_eqb (bit_and x m) v (λ (q : bit_and x m ≡ v). omega (arith, ltb-true b v e, and_le_l x m))

-- x ≥ b, where the greatest number with v under m is below b.
module _ (n full : ℕ) (f : full ≡ 2 ^ n - 1) where
  pub at_least_clash : (x b m v : ℕ) → x ≤ full → m ≤ full → b ≤ x → ltb (v + (full - m)) b ≡ true → eqb (bit_and x m) v ≡ false
  at_least_clash x b m v hx hm h e =
      ne_eqb (bit_and x m) v (λ (q : bit_and x m ≡ v). omega (arith, ltb-true (v + (full - m)) b e, le_and_add n full f x m hx hm))
