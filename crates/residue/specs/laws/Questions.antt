-- What a question's outcome gives: a fact that is so, a well-formed one, and one that settles the question itself.
use Rattle.std.specs.Prelude.{ℕ, ◌+◌, ◌-◌, ◌≤◌, ◌≡◌, refl, Bool, true, false, not, eqb, leb, Option, None, Some}
use Rattle.std.proofs.Common.{ap, arith, leb-true, leb-false, lt-ltb, le-leb, ne_eqb, eq-eqb}
use Rattle.std.specs.Int.Bits.{bit_and, and_self}
use Rattle.std.proofs.lemmas.Bool.{eqb-false, lt-leb, not-false}
use Rattle.residue.specs.Tests.{holds}
use Rattle.residue.specs.inner.Well.{well_masked, well_formed, well_known}
use Rattle.residue.specs.Facts.{outcome_of, fails_fact, fact_of}
use Rattle.residue.specs.inner.Readings.{is_so, in_width}
use Rattle.residue.specs.Residues.{outside, settled, reduced_equal, reduced_differs, from_masked, from_equal, covers, from_differs, from_at_most, from_at_least, residue_by}
use Rattle.residue.specs.inner.Relations.{is_settled}
use Rattle.residue.specs.laws.Choice.{by_cond, both}
use Rattle.residue.specs.laws.Bits.{outside_self}
use Rattle.residue.specs.laws.Lines.{masked}
use Rattle.residue.specs.declared.Test.{Test}
use Rattle.residue.specs.declared.Test.TheVariants.{Equal, Differs, AtMost, AtLeast}
use Rattle.residue.specs.declared.Outcome.{Outcome}
use Rattle.residue.specs.declared.Outcome.TheVariants as O
use Rattle.residue.specs.declared.Residue.{Residue}

-- ---- the fact is so

fails_so : (full : ℕ) (t : Test) (x : ℕ) → x ≤ full → holds t x ≡ false → is_so (fails_fact full t) (Some x) ≡ true
unfolding is_so fails_fact holds
fails_so full (Equal m v) x hx e = ap not e
fails_so full (Differs m v) x hx e = not-false (eqb (bit_and x m) v) e
fails_so full (AtMost c) x hx e =
    let c<x = leb-false x c e in
    rw (lt-leb full c (omega arith)) (le-leb (c + 1) x (omega arith))
fails_so full (AtLeast c) x hx e =
    let x<c = leb-false c x e in
    rw (ne_eqb c 0 (λ (z : c ≡ 0). omega arith)) (le-leb x (c - 1) (omega arith))

-- What a question comes to at a reading gives a fact that is so of the reading.
pub outcome_fact_so : (full : ℕ) (t : Test) (r : Option ℕ) → in_width full r ≡ true → is_so (fact_of full (outcome_of t r) t) r ≡ true
unfolding is_so fact_of outcome_of in_width
outcome_fact_so full t None h = refl
outcome_fact_so full t (Some x) h =
    by_cond (λ (o : Outcome). is_so (fact_of full o t) (Some x) ≡ true) (holds t x) (λ e. e) (fails_so full t x (leb-true x full h))

-- ---- the fact is well formed

fails_well : (full : ℕ) (t : Test) → well_formed full t ≡ true → well_known full (fails_fact full t) ≡ true
unfolding well_known fails_fact well_formed
fails_well full (Equal m v) h = h
fails_well full (Differs m v) h = h
fails_well full (AtMost c) h =
    by_cond (λ (k : Option Test). well_known full k ≡ true) (leb full c) (λ _. refl) (λ e. le-leb (c + 1) full (omega (arith, leb-false full c e)))
fails_well full (AtLeast c) h =
    by_cond (λ (k : Option Test). well_known full k ≡ true) (eqb c 0) (λ _. refl) (λ _. le-leb (c - 1) full (omega (arith, leb-true c full h)))

pub fact_well : (full : ℕ) (o : Outcome) (t : Test) → well_formed full t ≡ true → well_known full (fact_of full o t) ≡ true
unfolding well_known fact_of
fact_well full O.Holds t h = h
fact_well full O.Fails t h = fails_well full t h
fact_well full O.Absent t h = refl

-- ---- the fact settles the question

pub covers_self : (full m v : ℕ) → well_masked full m v ≡ true → covers m v m v ≡ true
unfolding covers
covers_self full m v h =
    both (eqb (bit_and m m) m) (eqb (bit_and v m) v) (eq-eqb (bit_and m m) m (and_self m)) (eq-eqb (bit_and v m) v (masked full m v h).inside)

settled_settled : (b : Bool) → is_settled (settled b) ≡ true
unfolding is_settled settled
settled_settled true = refl
settled_settled false = refl

equal_own : (full m v : ℕ) → is_settled (from_equal full m v (Equal m v)) ≡ true
unfolding is_settled from_equal from_masked reduced_equal
equal_own full m v =
    by_cond (λ (d : Residue). is_settled d ≡ true) (eqb m full) (λ _. settled_settled (holds (Equal m v) v))
    (λ _. rw (eq-eqb (bit_and v m) (bit_and v m) refl, eq-eqb (outside m m) 0 (outside_self m)))

differs_own : (full m v : ℕ) → is_settled (from_equal full m v (Differs m v)) ≡ true
unfolding is_settled from_equal from_masked reduced_differs
differs_own full m v =
    by_cond (λ (d : Residue). is_settled d ≡ true) (eqb m full) (λ _. settled_settled (holds (Differs m v) v))
    (λ _. rw (eq-eqb (bit_and v m) (bit_and v m) refl, eq-eqb (outside m m) 0 (outside_self m)))

holds_own : (full : ℕ) (t : Test) → well_formed full t ≡ true → is_settled (residue_by full (Some t) t) ≡ true
unfolding is_settled well_formed residue_by from_differs from_at_most from_at_least
holds_own full (Equal m v) h = equal_own full m v
holds_own full (Differs m v) h = rw (covers_self full m v h)
holds_own full (AtMost c) h = rw (le-leb c c (omega arith))
holds_own full (AtLeast c) h = rw (le-leb c c (omega arith))

fails_own : (full : ℕ) (t : Test) → well_formed full t ≡ true → is_settled (residue_by full (fails_fact full t) t) ≡ true
unfolding is_settled well_formed residue_by fails_fact from_differs from_at_most from_at_least
fails_own full (Equal m v) h = rw (covers_self full m v h)
fails_own full (Differs m v) h = differs_own full m v
fails_own full (AtMost c) h =
    by_cond (λ (k : Option Test). is_settled (residue_by full k (AtMost c)) ≡ true) (leb full c) (λ _. refl)
    (λ _. rw (lt-ltb c (c + 1) (omega arith)))
fails_own full (AtLeast c) h =
    by_cond (λ (k : Option Test). is_settled (residue_by full k (AtLeast c)) ≡ true) (eqb c 0) (λ _. refl)
    (λ e. let z = eqb-false c 0 e in rw (lt-ltb (c - 1) c (omega arith)))

-- Whatever a question comes to, nothing is left of it.
pub residue_own : (full : ℕ) (o : Outcome) (t : Test) → well_formed full t ≡ true → is_settled (residue_by full (fact_of full o t) t) ≡ true
unfolding is_settled residue_by fact_of
residue_own full O.Holds t h = holds_own full t h
residue_own full O.Fails t h = fails_own full t h
residue_own full O.Absent t h = refl
