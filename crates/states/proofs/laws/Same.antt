-- States are the same where and only where they are equal.
-- Assumes nothing.
use Rattle.std.specs.Prelude.{◌≡◌, Bool, true, eqb}
use Rattle.std.proofs.Math.Path.{refl, ap₂}
use Rattle.std.proofs.Common.{sym, ap, ◌∙◌, eqb-true, eq-eqb}
use Rattle.std.proofs.lemmas.Bool.{false≢true}
use mathlib.Core.List.{List, [], ◌∷◌}
use Rattle.residue.specs.laws.Choice.{both, first, second}
use Rattle.lists.specs.Filters.{Item, item_of}
use Rattle.lists.specs.Words.{item_words}
use Rattle.lists.specs.laws.Items.{item_round}
use Rattle.states.specs.States.{Standing, out, left, State}
use Rattle.states.specs.Same.{same_list, same_item, same_standing, same_state}

module _ {A : Type 0} (e : A → A → Bool) where
  pub same_list_eq : ((x y : A) → e x y ≡ true → x ≡ y) → (xs ys : List A) → same_list e xs ys ≡ true → xs ≡ ys
  unfolding same_list
  same_list_eq f [] [] h = refl
  same_list_eq f [] (y ∷ ys) h = absurd (false≢true h)
  same_list_eq f (x ∷ xs) [] h = absurd (false≢true h)
  same_list_eq f (x ∷ xs) (y ∷ ys) h =
      ap₂ (λ (a : A) (as' : List A). a ∷ as') (f x y (first (e x y) (same_list e xs ys) h)) (same_list_eq f xs ys (second (e x y) (same_list e xs ys) h))

  pub same_list_refl : ((x : A) → e x x ≡ true) → (xs : List A) → same_list e xs xs ≡ true
  unfolding same_list
  same_list_refl f [] = refl
  same_list_refl f (x ∷ xs) = both (e x x) (same_list e xs xs) (f x) (same_list_refl f xs)

pub same_item_eq : (a b : Item) → same_item a b ≡ true → a ≡ b
unfolding same_item
same_item_eq a b h = sym (item_round a) ∙ ap item_of (same_list_eq eqb eqb-true (item_words a) (item_words b) h) ∙ item_round b

pub same_item_refl : (a : Item) → same_item a a ≡ true
unfolding same_item
same_item_refl a = same_list_refl eqb (λ x. eq-eqb x x refl) (item_words a)

pub same_standing_eq : (x y : Standing) → same_standing x y ≡ true → x ≡ y
unfolding same_standing
same_standing_eq out out h = refl
same_standing_eq out (left us) h = absurd (false≢true h)
same_standing_eq (left ts) out h = absurd (false≢true h)
same_standing_eq (left ts) (left us) h = ap left (same_list_eq same_item same_item_eq ts us h)

pub same_standing_refl : (x : Standing) → same_standing x x ≡ true
unfolding same_standing
same_standing_refl out = refl
same_standing_refl (left ts) = same_list_refl same_item same_item_refl ts

pub same_state_eq : (s t : State) → same_state s t ≡ true → s ≡ t
unfolding same_state
same_state_eq s t h = same_list_eq same_standing same_standing_eq s t h

pub same_state_refl : (s : State) → same_state s s ≡ true
unfolding same_state
same_state_refl s = same_list_refl same_standing same_standing_refl s
