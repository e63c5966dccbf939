-- Small laws of tests: a choice by a test, two tests that say the same, a conjunction and a disjunction and their parts.
use Rattle.std.specs.Prelude.{ℕ, ◌≡◌, refl, Bool, true, false, cond, ◌&&◌, ◌||◌, eqb}
use Rattle.std.proofs.Common.{sym, ◌∙◌, true≢false, eqb-true, eq-eqb}
use Rattle.std.proofs.lemmas.Bool.{false≢true}
use Rattle.std.proofs.Math.Bool.{and-eq-true_iff}

-- What holds of both branches holds of the choice.
pub by_cond : {A : Type 0} (P : A → Type 0) (b : Bool) {x y : A} → (b ≡ true → P x) → (b ≡ false → P y) → P (cond b x y)
by_cond P true f g = f refl
by_cond P false f g = g refl

pub same_bool : (a b : Bool) → (a ≡ true → b ≡ true) → (b ≡ true → a ≡ true) → a ≡ b
same_bool true b f g = sym (f refl)
same_bool false true f g = g refl
same_bool false false f g = refl

pub same_eqb : (a b c d : ℕ) → (a ≡ b → c ≡ d) → (c ≡ d → a ≡ b) → eqb a b ≡ eqb c d
same_eqb a b c d f g = same_bool (eqb a b) (eqb c d) (λ e. eq-eqb c d (f (eqb-true a b e))) (λ e. eq-eqb a b (g (eqb-true c d e)))

-- A test that gives ⊥ where it holds is false.
pub never : (b : Bool) → (b ≡ true → ⊥) → b ≡ false
never true f = absurd (f refl)
never false f = refl

pub both : (a b : Bool) → a ≡ true → b ≡ true → a && b ≡ true
both a b p q = (and-eq-true_iff a b).1 (p, q)

pub first : (a b : Bool) → a && b ≡ true → a ≡ true
first a b e = ((and-eq-true_iff a b).0 e).0

pub second : (a b : Bool) → a && b ≡ true → b ≡ true
second a b e = ((and-eq-true_iff a b).0 e).1

pub neither : (a b : Bool) → (a || b) ≡ false → (a ≡ false) × (b ≡ false)
neither true b e = absurd (true≢false e)
neither false b e = (refl, e)

-- One of two tests holds.
pub either : (P : Type 0) (a b : Bool) → (a ≡ true → P) → (b ≡ true → P) → (a || b) ≡ true → P
either P true b f g e = f refl
either P false b f g e = g e

-- A test decides.
pub by_test : (P : Type 0) (b : Bool) → (b ≡ true → P) → (b ≡ false → P) → P
by_test P true f g = f refl
by_test P false f g = g refl

pub clash : {P : Type 0} (b : Bool) → b ≡ true → b ≡ false → P
clash b e z = absurd (false≢true (sym z ∙ e))
