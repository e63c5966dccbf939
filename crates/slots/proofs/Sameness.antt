-- Two runs of words compared filter by filter from the back: those before the ones passed decide.
-- Assumes nothing.
use Rattle.std.specs.Prelude.{ℕ, ◌+◌, ◌-◌, ◌≤◌, ◌≡◌, refl, Bool, true, false, ◌&&◌, List, [], ◌∷◌, ◌++◌, eqb, length, take, drop}
use Rattle.std.proofs.Common.{arith, sym, ap, ◌∙◌}
use Rattle.std.specs.Cmp.Lexicographic.{pointwise}
use lib.Seq.{length-take-le, take_all, take-add}
use Rattle.slots.specs.inner.Slots.{same_words}

-- The library compares slices so.
pub same_pointwise : (a b : List ℕ) → same_words a b ≡ pointwise eqb a b
unfolding same_words
same_pointwise [] [] = refl
same_pointwise [] (y ∷ b) = refl
same_pointwise (x ∷ a) [] = refl
same_pointwise (x ∷ a) (y ∷ b) = ap (λ (t : Bool). eqb x y && t) (same_pointwise a b)

and_assoc : (a b c : Bool) → (a && (b && c)) ≡ ((a && b) && c)
and_assoc true b c = refl
and_assoc false b c = refl

and_true : (b : Bool) → (b && true) ≡ b
and_true true = refl
and_true false = refl

and_false : (b : Bool) → (b && false) ≡ false
and_false true = refl
and_false false = refl

same_append : (a b c d : List ℕ) → length a ≡ length b → same_words (a ++ c) (b ++ d) ≡ (same_words a b && same_words c d)
unfolding same_words
same_append [] [] c d l = refl
same_append [] (y ∷ b) c d l = absurd (omega arith)
same_append (x ∷ a) [] c d l = absurd (omega arith)
same_append (x ∷ a) (y ∷ b) c d l =
    ap (λ (t : Bool). eqb x y && t) (same_append a b c d (omega arith)) ∙ and_assoc (eqb x y) (same_words a b) (same_words c d)

-- The words from place e on are the same: those before it decide.
abbrev pub Passed : List ℕ → List ℕ → ℕ → Type 0
Passed a b e = same_words a b ≡ same_words (take e a) (take e b)

module _ (a b : List ℕ) (even : length a ≡ length b) where
  pub passed_none : Passed a b (length a)
  passed_none = rw (take_all (length a) a (omega arith), take_all (length a) b (omega arith)) refl

  pub passed_all : Passed a b 0 → same_words a b ≡ true
  unfolding same_words
  passed_all e = e

  -- One part more, from place at up to place e.
  module _ (at e : ℕ) (begins : at ≤ e) (inside : e ≤ length a) (passed : Passed a b e) where
    split : (w : List ℕ) → take e w ≡ take at w ++ take (e - at) (drop at w)
    split w =
        let whole : at + (e - at) ≡ e = omega arith in
        ap (λ (k : ℕ). take k w) (sym whole) ∙ take-add at (e - at) w

    step : same_words a b ≡ (same_words (take at a) (take at b) && same_words (take (e - at) (drop at a)) (take (e - at) (drop at b)))
    step =
        passed
        ∙ rw (split a, split b)
        (same_append (take at a) (take at b) (take (e - at) (drop at a)) (take (e - at) (drop at b))
        (length-take-le at a (omega arith) ∙ sym (length-take-le at b (omega arith))))

    pub passed_differ : same_words (take (e - at) (drop at a)) (take (e - at) (drop at b)) ≡ false → same_words a b ≡ false
    passed_differ d = step ∙ ap (λ (t : Bool). same_words (take at a) (take at b) && t) d ∙ and_false (same_words (take at a) (take at b))

    pub passed_more : same_words (take (e - at) (drop at a)) (take (e - at) (drop at b)) ≡ true → Passed a b at
    passed_more d = step ∙ ap (λ (t : Bool). same_words (take at a) (take at b) && t) d ∙ and_true (same_words (take at a) (take at b))
