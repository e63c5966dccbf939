-- What is left of a test is the test on some of its bits, and so it is well formed.
use Rattle.std.specs.Prelude.{ℕ, ◌+◌, ◌-◌, ◌≡◌, refl, Bool, true, false, not, cond, ◌&&◌, eqb, leb, ltb, Option, None, Some}
use Rattle.std.proofs.Common.{sym, ap, ap₂, ◌∙◌, arith, eqb-true, le-leb, ne_eqb, eq-eqb}
use Rattle.std.proofs.lemmas.Bool.{false≢true, eqb-false, not-true}
use Rattle.std.specs.Int.Bits.{bit_and, and_self}
use Rattle.std.proofs.lemmas.Nat.{and_le_l, and_le_r}
use Rattle.residue.specs.Tests.{holds}
use Rattle.residue.specs.inner.Well.{well_masked, well_formed, well_left}
use Rattle.residue.specs.Residues.{outside, settled, reduced_equal, reduced_differs, from_masked, from_equal, covers, from_differs, from_at_most, from_at_least, residue_by}
use Rattle.residue.specs.inner.Relations.{equal_of, differs_of, at_most_of, at_least_of, same_test}
use Rattle.residue.specs.inner.Relations.{every_left, fewer, narrows}
use Rattle.residue.specs.laws.Choice.{by_cond, both, first, second}
use Rattle.residue.specs.laws.Bits.{and_twice, and_outside, outside_in}
use Rattle.residue.specs.laws.Lines.{masked}
use Rattle.residue.specs.declared.Test.{Test}
use Rattle.residue.specs.declared.Test.TheVariants.{Equal, Differs, AtMost, AtLeast}
use Rattle.residue.specs.declared.Residue.{Residue}
use Rattle.residue.specs.declared.Residue.TheVariants.{True, False, Left}

-- ---- what is left

pub every_more : (p q : Test → Bool) (d : Residue) → ((u : Test) → p u ≡ true → q u ≡ true) → every_left p d ≡ true → every_left q d ≡ true
unfolding every_left
every_more p q True f h = refl
every_more p q False f h = refl
every_more p q (Left u) f h = f u h

-- A choice between a residue and the test itself.
pub keep : (p : Test → Bool) (t : Test) (b : Bool) (d : Residue) → every_left p d ≡ true → (b ≡ false → p t ≡ true) → every_left p (cond b d (Left t)) ≡ true
unfolding every_left
keep p t b d h f = by_cond (λ (y : Residue). every_left p y ≡ true) b (λ _. h) f

-- ---- a test of one kind

module _ (P : Test → Type 0) where
  equal_case : (p : ℕ → ℕ → Bool) (u : Test) → ((m v : ℕ) → p m v ≡ true → P (Equal m v)) → equal_of p u ≡ true → P u
  unfolding equal_of
  equal_case p (Equal m v) f e = f m v e
  equal_case p (Differs m v) f e = absurd (false≢true e)
  equal_case p (AtMost c) f e = absurd (false≢true e)
  equal_case p (AtLeast c) f e = absurd (false≢true e)

  differs_case : (p : ℕ → ℕ → Bool) (u : Test) → ((m v : ℕ) → p m v ≡ true → P (Differs m v)) → differs_of p u ≡ true → P u
  unfolding differs_of
  differs_case p (Equal m v) f e = absurd (false≢true e)
  differs_case p (Differs m v) f e = f m v e
  differs_case p (AtMost c) f e = absurd (false≢true e)
  differs_case p (AtLeast c) f e = absurd (false≢true e)

  at_most_case : (c : ℕ) (u : Test) → P (AtMost c) → at_most_of (eqb c) u ≡ true → P u
  unfolding at_most_of
  at_most_case c (Equal m v) f e = absurd (false≢true e)
  at_most_case c (Differs m v) f e = absurd (false≢true e)
  at_most_case c (AtMost d) f e = rw (eqb-true c d e) at f
  at_most_case c (AtLeast d) f e = absurd (false≢true e)

  at_least_case : (c : ℕ) (u : Test) → P (AtLeast c) → at_least_of (eqb c) u ≡ true → P u
  unfolding at_least_of
  at_least_case c (Equal m v) f e = absurd (false≢true e)
  at_least_case c (Differs m v) f e = absurd (false≢true e)
  at_least_case c (AtMost d) f e = absurd (false≢true e)
  at_least_case c (AtLeast d) f e = rw (eqb-true c d e) at f

-- ---- the same test

pub same_test_refl : (t : Test) → same_test t t ≡ true
unfolding same_test equal_of differs_of at_most_of at_least_of
same_test_refl (Equal m v) = both (eqb m m) (eqb v v) (eq-eqb m m refl) (eq-eqb v v refl)
same_test_refl (Differs m v) = both (eqb m m) (eqb v v) (eq-eqb m m refl) (eq-eqb v v refl)
same_test_refl (AtMost c) = eq-eqb c c refl
same_test_refl (AtLeast c) = eq-eqb c c refl

same_pair : (m v n w : ℕ) (K : ℕ → ℕ → Test) → eqb m n && eqb v w ≡ true → K m v ≡ K n w
same_pair m v n w K e = ap₂ K (eqb-true m n (first (eqb m n) (eqb v w) e)) (eqb-true v w (second (eqb m n) (eqb v w) e))

pub same_test_eq : (a b : Test) → same_test a b ≡ true → a ≡ b
unfolding same_test
same_test_eq (Equal m v) b e = equal_case (λ (u : Test). Equal m v ≡ u) (λ n w. eqb m n && eqb v w) b (λ n w. same_pair m v n w Equal) e
same_test_eq (Differs m v) b e = differs_case (λ (u : Test). Differs m v ≡ u) (λ n w. eqb m n && eqb v w) b (λ n w. same_pair m v n w Differs) e
same_test_eq (AtMost c) b e = at_most_case (λ (u : Test). AtMost c ≡ u) c b refl e
same_test_eq (AtLeast c) b e = at_least_case (λ (u : Test). AtLeast c ≡ u) c b refl e

-- ---- fewer bits

pub record Fewer (m v n w : ℕ) : Type 0 where
  pub some : n ≡ 0 → ⊥
  pub bits : bit_and n m ≡ n
  pub value : bit_and v n ≡ w

fewer_so : (m v n w : ℕ) → Fewer m v n w → fewer m v n w ≡ true
unfolding fewer
fewer_so m v n w r =
    both (not (eqb n 0) && eqb (bit_and n m) n) (eqb (bit_and v n) w)
    (both (not (eqb n 0)) (eqb (bit_and n m) n) (ap not (ne_eqb n 0 r.some)) (eq-eqb (bit_and n m) n r.bits))
    (eq-eqb (bit_and v n) w r.value)

pub so_fewer : (m v n w : ℕ) → fewer m v n w ≡ true → Fewer m v n w
unfolding fewer
so_fewer m v n w e =
    let ab = first (not (eqb n 0) && eqb (bit_and n m) n) (eqb (bit_and v n) w) e in
    record {
      some = eqb-false n 0 (not-true (eqb n 0) (first (not (eqb n 0)) (eqb (bit_and n m) n) ab));
      bits = eqb-true (bit_and n m) n (second (not (eqb n 0)) (eqb (bit_and n m) n) ab);
      value = eqb-true (bit_and v n) w (second (not (eqb n 0) && eqb (bit_and n m) n) (eqb (bit_and v n) w) e);
    }

fewer_refl : (full m v : ℕ) → well_masked full m v ≡ true → fewer m v m v ≡ true
fewer_refl full m v h =
    let k = masked full m v h in
    fewer_so m v m v (record { some = k.some; bits = and_self m; value = k.inside })

-- The bits outside k are fewer, where some are left.
fewer_outside : (full m v k : ℕ) → well_masked full m v ≡ true → eqb (outside m k) 0 ≡ false → fewer m v (outside m k) (outside v k) ≡ true
fewer_outside full m v k h e =
    fewer_so m v (outside m k) (outside v k)
    (record {
      some = eqb-false (outside m k) 0 e;
      bits = outside_in m k;
      value = and_outside v m k ∙ ap (λ (y : ℕ). outside y k) (masked full m v h).inside;
    })

fewer_well : (full m v n w : ℕ) → well_masked full m v ≡ true → fewer m v n w ≡ true → well_masked full n w ≡ true
unfolding well_masked
fewer_well full m v n w h e =
    let k = masked full m v h in
    let r = so_fewer m v n w e in
    both (not (eqb n 0) && leb n full && leb w full) (eqb (bit_and w n) w)
    (both (not (eqb n 0) && leb n full) (leb w full)
    (both (not (eqb n 0)) (leb n full) (ap not (ne_eqb n 0 r.some)) (le-leb n full (omega (arith, k.mask, r.bits, and_le_r n m))))
    (le-leb w full (omega (arith, k.value, r.value, and_le_l v n))))
    (eq-eqb (bit_and w n) w (ap (λ (y : ℕ). bit_and y n) (sym r.value) ∙ and_twice v n ∙ r.value))

-- ---- narrowing

narrows_refl : (full : ℕ) (t : Test) → well_formed full t ≡ true → narrows t t ≡ true
unfolding well_formed narrows equal_of differs_of at_most_of at_least_of
narrows_refl full (Equal m v) h = fewer_refl full m v h
narrows_refl full (Differs m v) h = fewer_refl full m v h
narrows_refl full (AtMost c) h = eq-eqb c c refl
narrows_refl full (AtLeast c) h = eq-eqb c c refl

-- What narrows is a mask with fewer bits, of the same kind, or the same bound.
pub narrows_case : (P : Test → Test → Type 0)
    → ((m v n w : ℕ) → fewer m v n w ≡ true → P (Equal m v) (Equal n w))
    → ((m v n w : ℕ) → fewer m v n w ≡ true → P (Differs m v) (Differs n w))
    → ((c : ℕ) → P (AtMost c) (AtMost c))
    → ((c : ℕ) → P (AtLeast c) (AtLeast c))
    → (t u : Test) → narrows t u ≡ true → P t u
unfolding narrows
narrows_case P e d l g (Equal m v) u h = equal_case (P (Equal m v)) (fewer m v) u (e m v) h
narrows_case P e d l g (Differs m v) u h = differs_case (P (Differs m v)) (fewer m v) u (d m v) h
narrows_case P e d l g (AtMost c) u h = at_most_case (P (AtMost c)) c u (l c) h
narrows_case P e d l g (AtLeast c) u h = at_least_case (P (AtLeast c)) c u (g c) h

-- A test on fewer bits is well formed.
pub narrows_well : (full : ℕ) (t u : Test) → well_formed full t ≡ true → narrows t u ≡ true → well_formed full u ≡ true
unfolding well_formed
narrows_well full t u h e =
    narrows_case (λ (x y : Test). well_formed full x ≡ true → well_formed full y ≡ true)
    (λ m v n w r k. fewer_well full m v n w k r)
    (λ m v n w r k. fewer_well full m v n w k r)
    (λ c k. k)
    (λ c k. k)
    t u e h

masked_narrows : (full k w : ℕ) (t : Test) → well_formed full t ≡ true → every_left (narrows t) (from_masked full k w t) ≡ true
unfolding every_left well_formed narrows equal_of differs_of from_masked reduced_equal reduced_differs
masked_narrows full k w (Equal m v) h =
    by_cond (λ (d : Residue). every_left (narrows (Equal m v)) d ≡ true) (eqb (bit_and v k) (bit_and w m))
    (λ _. keep (narrows (Equal m v)) (Equal (outside m k) (outside v k)) (eqb (outside m k) 0) True refl (fewer_outside full m v k h))
    (λ _. refl)
masked_narrows full k w (Differs m v) h =
    by_cond (λ (d : Residue). every_left (narrows (Differs m v)) d ≡ true) (eqb (bit_and v k) (bit_and w m))
    (λ _. keep (narrows (Differs m v)) (Differs (outside m k) (outside v k)) (eqb (outside m k) 0) False refl (fewer_outside full m v k h))
    (λ _. refl)
masked_narrows full k w (AtMost c) h =
    by_cond (λ (d : Residue). every_left (narrows (AtMost c)) d ≡ true) (ltb c w) (λ _. refl)
    (λ _. keep (narrows (AtMost c)) (AtMost c) (leb (w + (full - k)) c) True refl (λ _. narrows_refl full (AtMost c) h))
masked_narrows full k w (AtLeast c) h =
    by_cond (λ (d : Residue). every_left (narrows (AtLeast c)) d ≡ true) (leb c w) (λ _. refl)
    (λ _. keep (narrows (AtLeast c)) (AtLeast c) (ltb (w + (full - k)) c) False refl (λ _. narrows_refl full (AtLeast c) h))

pub settled_every : (p : Test → Bool) (b : Bool) → every_left p (settled b) ≡ true
unfolding every_left settled
settled_every p true = refl
settled_every p false = refl

-- Every other line leaves the test itself or settles it.
differs_keeps : (p : Test → Bool) (k w : ℕ) (t : Test) → p t ≡ true → every_left p (from_differs k w t) ≡ true
unfolding every_left from_differs
differs_keeps p k w (Equal m v) h = keep p (Equal m v) (covers m v k w) False refl (λ _. h)
differs_keeps p k w (Differs m v) h = keep p (Differs m v) (covers m v k w) True refl (λ _. h)
differs_keeps p k w (AtMost c) h = h
differs_keeps p k w (AtLeast c) h = h

at_most_keeps : (p : Test → Bool) (b : ℕ) (t : Test) → p t ≡ true → every_left p (from_at_most b t) ≡ true
unfolding every_left from_at_most
at_most_keeps p b (Equal m v) h = keep p (Equal m v) (ltb b v) False refl (λ _. h)
at_most_keeps p b (Differs m v) h = keep p (Differs m v) (ltb b v) True refl (λ _. h)
at_most_keeps p b (AtMost c) h = keep p (AtMost c) (leb b c) True refl (λ _. h)
at_most_keeps p b (AtLeast c) h = keep p (AtLeast c) (ltb b c) False refl (λ _. h)

at_least_keeps : (p : Test → Bool) (full b : ℕ) (t : Test) → p t ≡ true → every_left p (from_at_least full b t) ≡ true
unfolding every_left from_at_least
at_least_keeps p full b (Equal m v) h = keep p (Equal m v) (ltb (v + (full - m)) b) False refl (λ _. h)
at_least_keeps p full b (Differs m v) h = keep p (Differs m v) (ltb (v + (full - m)) b) True refl (λ _. h)
at_least_keeps p full b (AtMost c) h = keep p (AtMost c) (ltb c b) False refl (λ _. h)
at_least_keeps p full b (AtLeast c) h = keep p (AtLeast c) (leb c b) True refl (λ _. h)

equal_narrows : (full k w : ℕ) (t : Test) → well_formed full t ≡ true → every_left (narrows t) (from_equal full k w t) ≡ true
unfolding from_equal
equal_narrows full k w t h =
    by_cond (λ (d : Residue). every_left (narrows t) d ≡ true) (eqb k full)
    (λ _. settled_every (narrows t) (holds t w))
    (λ _. masked_narrows full k w t h)

-- What a fact leaves of a test is the test on some of its bits.
pub residue_narrows : (full : ℕ) (k : Option Test) (t : Test) → well_formed full t ≡ true → every_left (narrows t) (residue_by full k t) ≡ true
unfolding every_left residue_by
residue_narrows full None t h = refl
residue_narrows full (Some (Equal k w)) t h = equal_narrows full k w t h
residue_narrows full (Some (Differs k w)) t h = differs_keeps (narrows t) k w t (narrows_refl full t h)
residue_narrows full (Some (AtMost b)) t h = at_most_keeps (narrows t) b t (narrows_refl full t h)
residue_narrows full (Some (AtLeast b)) t h = at_least_keeps (narrows t) full b t (narrows_refl full t h)

well_left_lem : (full : ℕ) (d : Residue) → every_left (well_formed full) d ≡ well_left full d
unfolding every_left well_left
well_left_lem full True = refl
well_left_lem full False = refl
well_left_lem full (Left u) = refl

-- So it is well formed.
pub residue_well : (full : ℕ) (k : Option Test) (t : Test) → well_formed full t ≡ true → well_left full (residue_by full k t) ≡ true
residue_well full k t h =
    sym (well_left_lem full (residue_by full k t))
    ∙ every_more (narrows t) (well_formed full) (residue_by full k t) (λ u. narrows_well full t u h) (residue_narrows full k t h)
