-- A residue is sound: where the fact is so, the test holds exactly when what is left of it does. Over any width n: full is 2 ^ n - 1.
-- One law for each line of document 01, by the kind of the test; then residue_sound.
use Rattle.std.specs.Prelude.{ℕ, ◌+◌, ◌-◌, ◌^◌, ◌≤◌, ◌≡◌, Bool, true, false, cond, ltb, Option, None, Some}
use Rattle.std.proofs.Math.Path.{refl, sym, ap}
use Rattle.std.proofs.Common.{◌∙◌, arith}
use Rattle.std.proofs.Math.Bool.{not}
use Rattle.std.proofs.lemmas.Bool.{false≢true}
use Rattle.std.proofs.Math.Dec.{eqb, leb}
use Rattle.std.specs.Int.Bits.{bit_and, and_le_l}
use borrow.Author.Tests.{eqb-true, eqb-false, ltb-true, leb-true, le-leb, lt-leb, not-true}
use Rattle.residue.specs.Tests.{holds, holds_of}
use Rattle.residue.specs.inner.Well.{well_formed, well_known}
use Rattle.residue.specs.inner.Readings.{is_so, remains, in_width}
use Rattle.residue.specs.Residues.{outside, settled, reduced_equal, reduced_differs, from_masked, from_equal, covers, from_differs, from_at_most, from_at_least, residue_by}
use Rattle.residue.specs.laws.Choice.{by_cond}
use Rattle.residue.specs.laws.Bits.{and_full, le_and_add}
use Rattle.residue.specs.laws.Lines.{masked, masked_clash, masked_left, none_left, differs_clash, at_most_clash, at_least_clash}
use Rattle.residue.specs.declared.Test.{Test}
use Rattle.residue.specs.declared.Test.TheVariants.{Equal, Differs, AtMost, AtLeast}
use Rattle.residue.specs.declared.Residue.{Residue}
use Rattle.residue.specs.declared.Residue.TheVariants.{True, False, Left}

-- A choice between a residue and the test itself agrees with the test where the residue does.
settle : (t : Test) (x : ℕ) (b : Bool) (d : Residue) → (b ≡ true → holds t x ≡ remains d (Some x)) → holds t x ≡ remains (cond b d (Left t)) (Some x)
unfolding holds_of remains
settle t x b d f = by_cond (λ (y : Residue). holds t x ≡ remains y (Some x)) b f (λ _. refl)

remains_settled : (b : Bool) (r : Option ℕ) → remains (settled b) r ≡ b
unfolding settled remains
remains_settled true r = refl
remains_settled false r = refl

at_most_sound : (b x : ℕ) → x ≤ b → (t : Test) → holds t x ≡ remains (from_at_most b t) (Some x)
unfolding holds remains from_at_most
at_most_sound b x h (Equal m v) = settle (Equal m v) x (ltb b v) False (at_most_clash x b m v h)
at_most_sound b x h (Differs m v) = settle (Differs m v) x (ltb b v) True (λ e. ap not (at_most_clash x b m v h e))
at_most_sound b x h (AtMost c) = settle (AtMost c) x (leb b c) True (λ e. le-leb x c (omega (arith, leb-true b c e)))
at_most_sound b x h (AtLeast c) = settle (AtLeast c) x (ltb b c) False (λ e. lt-leb c x (omega (arith, ltb-true b c e)))

differs_sound : (k w x : ℕ) → (bit_and x k ≡ w → ⊥) → (t : Test) → holds t x ≡ remains (from_differs k w t) (Some x)
unfolding holds holds_of remains from_differs
differs_sound k w x h (Equal m v) = settle (Equal m v) x (covers m v k w) False (differs_clash x k w m v h)
differs_sound k w x h (Differs m v) = settle (Differs m v) x (covers m v k w) True (λ e. ap not (differs_clash x k w m v h e))
differs_sound k w x h (AtMost c) = refl
differs_sound k w x h (AtLeast c) = refl

module _ (n full : ℕ) (f : full ≡ 2 ^ n - 1) where
  at_least_sound : (b x : ℕ) → x ≤ full → b ≤ x → (t : Test) → well_formed full t ≡ true → holds t x ≡ remains (from_at_least full b t) (Some x)
  unfolding holds remains from_at_least well_formed
  at_least_sound b x hx h (Equal m v) ht =
      settle (Equal m v) x (ltb (v + (full - m)) b) False (at_least_clash n full f x b m v hx (masked full m v ht).mask h)
  at_least_sound b x hx h (Differs m v) ht =
      settle (Differs m v) x (ltb (v + (full - m)) b) True (λ e. ap not (at_least_clash n full f x b m v hx (masked full m v ht).mask h e))
  at_least_sound b x hx h (AtMost c) ht = settle (AtMost c) x (ltb c b) False (λ e. lt-leb x c (omega (arith, ltb-true c b e)))
  at_least_sound b x hx h (AtLeast c) ht = settle (AtLeast c) x (leb c b) True (λ e. le-leb c x (omega (arith, leb-true c b e)))

  module _ (k w x : ℕ) (hk : k ≤ full) (hx : x ≤ full) (e : bit_and x k ≡ w) where
    masked_sound : (t : Test) → well_formed full t ≡ true → holds t x ≡ remains (from_masked full k w t) (Some x)
    unfolding holds remains from_masked reduced_equal reduced_differs well_formed
    masked_sound (Equal m v) ht =
        by_cond (λ (d : Residue). eqb (bit_and x m) v ≡ remains d (Some x)) (eqb (bit_and v k) (bit_and w m))
        (λ h. masked_left x k w e m v h ∙ settle (Equal (outside m k) (outside v k)) x (eqb (outside m k) 0) True (none_left x m v k (masked full m v ht).inside))
        (masked_clash x k w e m v)
    masked_sound (Differs m v) ht =
        by_cond (λ (d : Residue). not (eqb (bit_and x m) v) ≡ remains d (Some x)) (eqb (bit_and v k) (bit_and w m))
        (λ h. ap not (masked_left x k w e m v h)
        ∙ settle (Differs (outside m k) (outside v k)) x (eqb (outside m k) 0) False (λ z. ap not (none_left x m v k (masked full m v ht).inside z)))
        (λ h. ap not (masked_clash x k w e m v h))
    masked_sound (AtMost c) ht =
        by_cond (λ (d : Residue). leb x c ≡ remains d (Some x)) (ltb c w)
        (λ h. lt-leb x c (omega (arith, ltb-true c w h, and_le_l x k, e)))
        (λ _. settle (AtMost c) x (leb (w + (full - k)) c) True (λ h. le-leb x c (omega (arith, leb-true (w + (full - k)) c h, le_and_add n full f x k hx hk, e))))
    masked_sound (AtLeast c) ht =
        by_cond (λ (d : Residue). leb c x ≡ remains d (Some x)) (leb c w)
        (λ h. le-leb c x (omega (arith, leb-true c w h, and_le_l x k, e)))
        (λ _. settle (AtLeast c) x (ltb (w + (full - k)) c) False (λ h. lt-leb c x (omega (arith, ltb-true (w + (full - k)) c h, le_and_add n full f x k hx hk, e))))

    equal_sound : (t : Test) → well_formed full t ≡ true → holds t x ≡ remains (from_equal full k w t) (Some x)
    unfolding from_equal
    equal_sound t ht =
        by_cond (λ (d : Residue). holds t x ≡ remains d (Some x)) (eqb k full)
        (λ h. ap (holds t) (sym (and_full n full f x hx) ∙ ap (bit_and x) (sym (eqb-true k full h)) ∙ e) ∙ sym (remains_settled (holds t w) (Some x)))
        (λ _. masked_sound t ht)

  known_sound : (g t : Test) (x : ℕ) → well_formed full g ≡ true → well_formed full t ≡ true → x ≤ full → holds g x ≡ true
      → holds t x ≡ remains (residue_by full (Some g) t) (Some x)
  unfolding holds residue_by well_formed
  known_sound (Equal k w) t x hg ht hx hs = equal_sound k w x (masked full k w hg).mask hx (eqb-true (bit_and x k) w hs) t ht
  known_sound (Differs k w) t x hg ht hx hs = differs_sound k w x (eqb-false (bit_and x k) w (not-true (eqb (bit_and x k) w) hs)) t
  known_sound (AtMost b) t x hg ht hx hs = at_most_sound b x (leb-true x b hs) t
  known_sound (AtLeast b) t x hg ht hx hs = at_least_sound b x hx (leb-true b x hs) t ht

  -- Where a fact is so of a reading, a test holds of it exactly when what the fact leaves of the test does.
  pub residue_sound : (k : Option Test) (t : Test) (r : Option ℕ) → well_known full k ≡ true → well_formed full t ≡ true → in_width full r ≡ true → is_so k r ≡ true
      → holds_of t r ≡ remains (residue_by full k t) r
  unfolding holds_of is_so well_known in_width residue_by remains
  residue_sound None t None hk ht hr hs = refl
  residue_sound None t (Some x) hk ht hr hs = absurd (false≢true hs)
  residue_sound (Some g) t None hk ht hr hs = absurd (false≢true hs)
  residue_sound (Some g) t (Some x) hk ht hr hs = known_sound g t x hk ht (leb-true x full hr) hs
