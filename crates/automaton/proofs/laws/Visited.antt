-- The states met only grow, no state is met twice, and each visit is a derivation.
--   Visits M f met s news   meeting s after met adds news; at most f questions follow one another
--   Visit M f met s         the derivation of visit M f met s
use Rattle.std.specs.Prelude.{ℕ, zero, suc, ◌<◌, ◌≡◌, refl, Bool, true, false, List, [], ◌∷◌, ◌++◌}
use Rattle.std.proofs.Common.{arith, not-suc-le-zero, sym, ◌∙◌, append_assoc, append-nil}
use Rattle.std.proofs.lemmas.Bool.{false≢true}
use Rattle.residue.specs.laws.Choice.{neither}
use Rattle.residue.specs.declared.Outcome.{Outcome}
use Rattle.residue.specs.declared.Outcome.TheVariants.{Holds, Fails, Absent}
use Rattle.automaton.specs.Machines.{Machine, meets, visit, visit_ways}
use Rattle.automaton.proofs.laws.Lists.{Begins, begins_refl, begins_append, begins_trans}
use Rattle.automaton.specs.Lawful.{Apart, apart_none, apart_more, Distinct, distinct_none, distinct_more}
use Rattle.automaton.specs.inner.Lawful.{Lawful}

pub data Visits (M : Machine) : ℕ → List M.State → M.State → List M.State → Type 0 where
  old : {f : ℕ} {met : List M.State} {s : M.State} → meets M met s ≡ true → Visits M f met s []
  final : {f : ℕ} {met : List M.State} {s : M.State} → meets M met s ≡ false → M.asks s ≡ false → Visits M f met s (s ∷ [])
  asking : {f : ℕ} {met a b c : List M.State} {s : M.State} → meets M met s ≡ false → M.asks s ≡ true
      → Visits M f (met ++ s ∷ []) (M.step Holds s) a
      → Visits M f (met ++ s ∷ [] ++ a) (M.step Fails s) b
      → Visits M f (met ++ s ∷ [] ++ a ++ b) (M.step Absent s) c
      → Visits M (suc f) met s (s ∷ (a ++ b ++ c))

pub record Visit (M : Machine) (f : ℕ) (met : List M.State) (s : M.State) : Type 0 where
  pub news : List M.State
  pub out : visit M f met s ≡ met ++ news
  pub depth : ℕ
  pub way : Visits M depth met s news

-- A visit, case by case.

pub visit_old : (M : Machine) (f : ℕ) (met : List M.State) (s : M.State) → meets M met s ≡ true → visit M (suc f) met s ≡ met
unfolding visit
visit_old M f met s e = rw (e, visit)

pub visit_final : (M : Machine) (f : ℕ) (met : List M.State) (s : M.State) → meets M met s ≡ false → M.asks s ≡ false
    → visit M (suc f) met s ≡ met ++ s ∷ []
unfolding visit
visit_final M f met s e q = rw (e, visit, q)

pub visit_asking : (M : Machine) (f : ℕ) (met : List M.State) (s : M.State) → meets M met s ≡ false → M.asks s ≡ true
    → visit M (suc f) met s ≡ visit_ways M (visit M f) (met ++ s ∷ []) s
unfolding visit
visit_asking M f met s e q = rw (e, visit, q)

-- P of a visit, where it keeps what it has met, adds a state, and goes three ways.
pub visit_cases : (M : Machine) (P : List M.State → Type 0) (f : ℕ) (met : List M.State) (s : M.State)
    → (meets M met s ≡ true → P met)
    → (meets M met s ≡ false → M.asks s ≡ false → P (met ++ s ∷ []))
    → (meets M met s ≡ false → M.asks s ≡ true → P (visit_ways M (visit M f) (met ++ s ∷ []) s))
    → P (visit M (suc f) met s)
visit_cases M P f met s old-case final-case asking-case = go (meets M met s) (M.asks s) refl refl
  where
    go : (b q : Bool) → meets M met s ≡ b → M.asks s ≡ q → P (visit M (suc f) met s)
    go true q e eq = rw (visit_old M f met s e) (old-case e)
    go false true e eq = rw (visit_asking M f met s e eq) (asking-case e eq)
    go false false e eq = rw (visit_final M f met s e eq) (final-case e eq)

-- What is met stays met, in its place.

ways_extend : (M : Machine) (next : List M.State → M.State → List M.State) → ((met : List M.State) (s : M.State) → Begins met (next met s))
    → (met : List M.State) (s : M.State) → Begins met (visit_ways M next met s)
unfolding visit_ways
ways_extend M next extends met s =
    begins_trans (extends met (M.step Holds s)) (begins_trans (extends _ (M.step Fails s)) (extends _ (M.step Absent s)))

pub visit_extends : (M : Machine) (f : ℕ) (met : List M.State) (s : M.State) → Begins met (visit M f met s)
unfolding visit
visit_extends M zero met s = begins_refl met
visit_extends M (suc f) met s =
    visit_cases M (λ (out : List M.State). Begins met out) f met s
    (λ e. begins_refl met)
    (λ e q. begins_append met (s ∷ []))
    (λ e q. begins_trans (begins_append met (s ∷ [])) (ways_extend M (visit M f) (λ met s. visit_extends M f met s) (met ++ s ∷ []) s))

-- The start is the first state.
pub visit_start : (M : Machine) (f : ℕ) (s : M.State) → Begins (s ∷ []) (visit M (suc f) [] s)
unfolding meets
visit_start M f s =
    visit_cases M (λ (out : List M.State). Begins (s ∷ []) out) f [] s
    (λ e. absurd (false≢true e))
    (λ e q. begins_refl (s ∷ []))
    (λ e q. ways_extend M (visit M f) (visit_extends M f) (s ∷ []) s)

-- No state is met twice.

apart_append : (M : Machine) (x s : M.State) {l : List M.State} → Apart M x l → M.same x s ≡ false → Apart M x (l ++ s ∷ [])
apart_append M x s apart_none e = apart_more e apart_none
apart_append M x s (apart_more d ds) e = apart_more d (apart_append M x s ds e)

pub distinct_append : (M : Machine) (s : M.State) {l : List M.State} → Distinct M l → meets M l s ≡ false → Distinct M (l ++ s ∷ [])
unfolding meets
distinct_append M s distinct_none e = distinct_more apart_none distinct_none
distinct_append M s (distinct_more {x = x} {xs = xs} a d) e =
    let n = neither (M.same x s) (meets M xs s) e in
    distinct_more (apart_append M x s a n.0) (distinct_append M s d n.1)

pub visit_distinct : (M : Machine) (f : ℕ) (met : List M.State) (s : M.State) → Distinct M met → Distinct M (visit M f met s)
unfolding visit visit_ways
visit_distinct M zero met s d = d
visit_distinct M (suc f) met s d =
    visit_cases M (λ (out : List M.State). Distinct M out) f met s
    (λ e. d)
    (λ e q. distinct_append M s d e)
    (λ e q. visit_distinct M f _ (M.step Absent s)
    (visit_distinct M f _ (M.step Fails s) (visit_distinct M f _ (M.step Holds s) (distinct_append M s d e))))

-- A derivation tells what a visit adds, and with enough fuel there is one.

pub three_ways : {A : Type 0} (met : List A) (s : A) (a b c : List A) → met ++ s ∷ [] ++ a ++ b ++ c ≡ met ++ s ∷ (a ++ b ++ c)
three_ways met s a b c = simp append_assoc

visit_three : (M : Machine) (f : ℕ) (met : List M.State) (s : M.State) (a b c : List M.State) → meets M met s ≡ false → M.asks s ≡ true
    → visit M f (met ++ s ∷ []) (M.step Holds s) ≡ met ++ s ∷ [] ++ a
    → visit M f (met ++ s ∷ [] ++ a) (M.step Fails s) ≡ met ++ s ∷ [] ++ a ++ b
    → visit M f (met ++ s ∷ [] ++ a ++ b) (M.step Absent s) ≡ met ++ s ∷ [] ++ a ++ b ++ c
    → visit M (suc f) met s ≡ met ++ s ∷ (a ++ b ++ c)
unfolding visit_ways
visit_three M f met s a b c e q v w z = visit_asking M f met s e q ∙ ways
  where
    ways : visit_ways M (visit M f) (met ++ s ∷ []) s ≡ met ++ s ∷ (a ++ b ++ c)
    ways = rw (v, w, z) (three_ways met s a b c)

pub visits_visit : {M : Machine} {f : ℕ} {met news : List M.State} {s : M.State} → Visits M f met s news → visit M (suc f) met s ≡ met ++ news
visits_visit {M} {f} {met} {s} (old e) = visit_old M f met s e ∙ sym (append-nil met)
visits_visit {M} {f} {met} {s} (final e q) = visit_final M f met s e q
visits_visit {M} {met} {s} (asking {f = f} {a = a} {b = b} {c = c} e q v w z) =
    visit_three M (suc f) met s a b c e q (visits_visit v) (visits_visit w) (visits_visit z)

module _ {M : Machine} {Good : M.State → Type 0} {left : M.State → ℕ} (law : Lawful M Good left) where
  pub visits_exist : (f : ℕ) (met : List M.State) (s : M.State) → Good s → left s < suc f → (news : List M.State) × Visits M f met s news
  visits_exist zero met s g h = go (meets M met s) (M.asks s) refl refl
    where
      go : (b q : Bool) → meets M met s ≡ b → M.asks s ≡ q → (news : List M.State) × Visits M zero met s news
      go true q e eq = ([], old e)
      go false false e eq = (s ∷ [], final e eq)
      go false true e eq = absurd (omega (arith, law.falls Holds s g eq))
  visits_exist (suc f) met s g h = go (λ met s g h. visits_exist f met s g h) (meets M met s) (M.asks s) refl refl
    where
      go : ((met : List M.State) (s : M.State) → Good s → left s < suc f → (news : List M.State) × Visits M f met s news)
          → (b q : Bool) → meets M met s ≡ b → M.asks s ≡ q → (news : List M.State) × Visits M (suc f) met s news
      go below true q e eq = ([], old e)
      go below false false e eq = (s ∷ [], final e eq)
      go below false true e eq =
          let fell : (o : Outcome) → left (M.step o s) < suc f = λ o. omega (arith, law.falls o s g eq) in
          let v = below (met ++ s ∷ []) (M.step Holds s) (law.good_step Holds s g eq) (fell Holds) in
          let w = below (met ++ s ∷ [] ++ v.0) (M.step Fails s) (law.good_step Fails s g eq) (fell Fails) in
          let z = below (met ++ s ∷ [] ++ v.0 ++ w.0) (M.step Absent s) (law.good_step Absent s g eq) (fell Absent) in
          (s ∷ (v.0 ++ w.0 ++ z.0), asking e eq v.1 w.1 z.1)

  pub visit_visits : (f : ℕ) (met : List M.State) (s : M.State) → Good s → left s < f → Visit M f met s
  visit_visits zero met s g h = absurd (not-suc-le-zero h)
  visit_visits (suc f) met s g h =
      let v = visits_exist f met s g h in
      record { news = v.0; out = visits_visit v.1; depth = f; way = v.1 }
