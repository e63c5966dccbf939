-- Sets of fields that meet: one field more in a set meets another set where it did before, or where the other has that field.
-- Assumes nothing.
use Prim.Native.Nat.{ℕ, zero, suc, ◌+◌, ◌*◌, ◌/◌, ◌%◌, ◌^◌, ◌<◌, min, max}
use native.Mathlib.Nat.{pow-suc, div-one}
use native.Mathlib.Numerals.{one-add}
use native.Mathlib.Omega.{arith}
use mathlib.Core.Path.{◌≡◌, refl, sym, ap, ap₂, ◌∙◌}
use mathlib.Core.Bool.{Bool, true, false, not, ◌&&◌, ◌||◌, or-true, or-false}
use borrow.Author.Tests.{eq-eqb, ne_eqb, eqb-true}
use lib.Bits.{bit_and, bit_or, and_step, and_zero_r, or_step, or_zero_r}
use lib.Dec.{eqb}
use lib.Pow.{shr-shr}
use Rattle.residue.specs.laws.Choice.{same_bool, both, first, second}
use Rattle.sets.specs.Sets.{member}
use Rattle.matcher.specs.inner.Records.{meets}

zero_step : (x y : ℕ) → eqb (x * 2 + y) 0 ≡ (eqb x 0 && eqb y 0)
zero_step x y =
    same_bool (eqb (x * 2 + y) 0) (eqb x 0 && eqb y 0)
    (λ h. let none = eqb-true (x * 2 + y) 0 h in both (eqb x 0) (eqb y 0) (eq-eqb x 0 (omega arith)) (eq-eqb y 0 (omega arith)))
    (λ h.
    let left = eqb-true x 0 (first (eqb x 0) (eqb y 0) h) in
    let right = eqb-true y 0 (second (eqb x 0) (eqb y 0) h) in
    eq-eqb (x * 2 + y) 0 (omega arith))

member_half : (n c : ℕ) → member (suc n) c ≡ member n (c / 2)
unfolding member
member_half n c = ap (λ (x : ℕ). eqb (x % 2) 1) (sym (shr-shr c 1 n ∙ ap (λ (k : ℕ). c / 2 ^ k) (one-add n)))

-- The lowest bit, and the bits above it.
lowest : (x u w : ℕ) → u < 2 → not (eqb (x * 2 + min u 1) 0) ≡ (not (eqb (x * 2 + min u w) 0) || eqb u 1)
lowest x zero w l =
    let none : min 0 w ≡ 0 = omega arith in
    rw none (sym (or-false (not (eqb (x * 2 + 0) 0))))
lowest x (suc zero) w l =
    let some : not (eqb (x * 2 + 1) 0) ≡ true = ap not (ne_eqb (x * 2 + 1) 0 (λ e. omega arith)) in
    some ∙ sym (or-true (not (eqb (x * 2 + min 1 w) 0)))
lowest x (suc (suc u)) w l = absurd (omega arith)

higher : (e e' z q : Bool) → not e' ≡ (not e || q) → not (e' && z) ≡ (not (e && z) || q)
higher true true true q h = h
higher true false true q h = h
higher false true true q h = h
higher false false true q h = refl
higher true true false q h = refl
higher true false false q h = refl
higher false true false q h = refl
higher false false false q h = refl

pub unmet : (c : ℕ) → meets c 0 ≡ false
unfolding meets
unmet c = rw (and_zero_r c)

abbrev low : ℕ → ℕ → ℕ
low c m = min (c % 2) (m % 2)

pub meets_more : (n c m : ℕ) → meets c (bit_or m (2 ^ n)) ≡ (meets c m || member n c)
unfolding meets member
meets_more zero c m =
    let whole : bit_or m 1 ≡ m / 2 * 2 + 1 =
    or_step m 1 ∙ ap₂ (λ (x y : ℕ). x * 2 + y) (or_zero_r (m / 2)) (omega arith) in
    let half : bit_or m 1 / 2 ≡ m / 2 = omega arith in
    let odd : bit_or m 1 % 2 ≡ 1 = omega arith in
    ap (λ (x : ℕ). not (eqb x 0)) (and_step c (bit_or m 1) ∙ ap₂ (λ (x y : ℕ). bit_and (c / 2) x * 2 + min (c % 2) y) half odd) ∙
    lowest (bit_and (c / 2) (m / 2)) (c % 2) (m % 2) (omega arith) ∙
    ap₂ (λ (x : ℕ) (q : Bool). not (eqb x 0) || q) (sym (and_step c m)) (ap (λ (x : ℕ). eqb (x % 2) 1) (sym (div-one c)))
meets_more (suc n) c m =
    let half : 2 ^ suc n / 2 ≡ 2 ^ n = omega (arith, pow-suc 2 n) in
    let even : 2 ^ suc n % 2 ≡ 0 = omega (arith, pow-suc 2 n) in
    let same : max (m % 2) 0 ≡ m % 2 = omega arith in
    let whole : bit_or m (2 ^ suc n) ≡ bit_or (m / 2) (2 ^ n) * 2 + m % 2 =
    or_step m (2 ^ suc n) ∙ ap₂ (λ (x y : ℕ). bit_or (m / 2) x * 2 + y) half (ap (max (m % 2)) even ∙ same) in
    let halved : bit_or m (2 ^ suc n) / 2 ≡ bit_or (m / 2) (2 ^ n) = omega arith in
    let odd : bit_or m (2 ^ suc n) % 2 ≡ m % 2 = omega arith in
    let more = bit_and (c / 2) (bit_or (m / 2) (2 ^ n)) in
    let some = bit_and (c / 2) (m / 2) in
    ap (λ (x : ℕ). not (eqb x 0)) (and_step c (bit_or m (2 ^ suc n)) ∙ ap₂ (λ (x y : ℕ). bit_and (c / 2) x * 2 + min (c % 2) y) halved odd) ∙
    ap not (zero_step more (low c m)) ∙
    higher (eqb some 0) (eqb more 0) (eqb (low c m) 0) (member n (c / 2)) (meets_more n (c / 2) (m / 2)) ∙
    ap₂ (λ (e q : Bool). not e || q) (sym (zero_step some (low c m)) ∙ ap (λ (x : ℕ). eqb x 0) (sym (and_step c m))) (sym (member_half n c))
