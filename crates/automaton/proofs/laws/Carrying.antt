-- A machine carried to another: an encoding that respects asks, step and same carries the states met, their records and how they are placed.
--   Carried M N Good enc      enc takes the good states of M to states of N that ask, step and read alike
--   SameCarried M N Good enc  they compare alike
use Rattle.std.specs.Prelude.{ℕ, suc, ◌+◌, ◌<◌, ◌≡◌, Bool, ◌||◌, leb, length, None, Some}
use Rattle.std.proofs.Math.Path.{refl}
use Rattle.std.proofs.Common.{ap, ◌∙◌}
use Rattle.std.proofs.Math.Bool.{true, false, cond}
use mathlib.Core.List.{List, [], ◌∷◌, ◌++◌, map, map-append}
use Rattle.std.proofs.lemmas.List.{length-map}
use Rattle.residue.specs.declared.Outcome.{Outcome}
use Rattle.residue.specs.declared.Outcome.TheVariants.{Holds, Fails, Absent}
use Rattle.tables.specs.Tables.{record_with}
use Rattle.automaton.specs.Machines.{Machine, meets, place_of, visit, nexts_of, record_of}
use Rattle.automaton.proofs.laws.Lists.{each_nil, each_cons, each_head, each_tail, each_append, Each}
use Rattle.automaton.specs.inner.Lawful.{Lawful}
use Rattle.automaton.proofs.laws.Visited.{Visits, old, final, asking, visits_exist, visits_visit}
use Rattle.automaton.proofs.laws.Reaching.{visits_good}
use Rattle.automaton.specs.inner.Placing.{place_all}
use Rattle.automaton.proofs.laws.MetPlaced.{Fit, placed_visits}
use Rattle.automaton.specs.inner.Placing.{holding}

pub record Carried (M N : Machine) (Good : M.State → Type 0) (enc : M.State → N.State) : Type 0 where
  pub asks_carried : (s : M.State) → Good s → N.asks (enc s) ≡ M.asks s
  pub step_carried : (o : Outcome) (s : M.State) → Good s → M.asks s ≡ true → N.step o (enc s) ≡ enc (M.step o s)
  pub question_carried : (s : M.State) → Good s → N.question (enc s) ≡ M.question s
  pub sure_carried : (s : M.State) → Good s → N.sure (enc s) ≡ M.sure s
  pub out_carried : (s : M.State) → Good s → N.out (enc s) ≡ M.out s

pub record SameCarried (M N : Machine) (Good : M.State → Type 0) (enc : M.State → N.State) : Type 0 where
  pub same_carried : (a b : M.State) → Good a → Good b → N.same (enc a) (enc b) ≡ M.same a b

-- ---- which states are met

module _ {M N : Machine} {Good : M.State → Type 0} {enc : M.State → N.State} (same : SameCarried M N Good enc) where
  pub meets_carried : (met : List M.State) (s : M.State) → Each Good met → Good s → meets N (map enc met) (enc s) ≡ meets M met s
  unfolding meets
  meets_carried [] s good g = refl
  meets_carried (x ∷ met) s good g =
      rw (same.same_carried x s (each_head good) g) (ap (λ (b : Bool). M.same x s || b) (meets_carried met s (each_tail good) g))

  pub place_carried : (met : List M.State) (s : M.State) → Each Good met → Good s → place_of N (map enc met) (enc s) ≡ place_of M met s
  unfolding place_of
  place_carried [] s good g = refl
  place_carried (x ∷ met) s good g =
      rw (same.same_carried x s (each_head good) g)
      (ap (λ (n : ℕ). cond (M.same x s) 0 (n + 1)) (place_carried met s (each_tail good) g))

-- ---- the states met, their records and how they are placed

module _ {M N : Machine} {Good : M.State → Type 0} {left : M.State → ℕ} {enc : M.State → N.State}
    (law : Lawful M Good left) (carried : Carried M N Good enc) (same : SameCarried M N Good enc) where
  nexts_carried : (met : List M.State) (s : M.State) (o : Outcome) → Each Good met → Good s → nexts_of N (map enc met) (enc s) o ≡ nexts_of M met s o
  unfolding nexts_of
  nexts_carried met s o good g = rw (carried.asks_carried s g) (go (M.asks s) refl)
    where
      go : (b : Bool) → M.asks s ≡ b → cond b (place_of N (map enc met) (N.step o (enc s))) 0 ≡ cond b (place_of M met (M.step o s)) 0
      go false q = refl
      go true q = rw (carried.step_carried o s g q) (place_carried same met (M.step o s) good (law.good_step o s g q))

  pub record_carried : (met : List M.State) (s : M.State) → Each Good met → Good s → record_of N (map enc met) (enc s) ≡ record_of M met s
  unfolding record_of record_with
  record_carried met s good g =
      rw (
        carried.question_carried s g,
        carried.sure_carried s g,
        carried.out_carried s g,
        nexts_carried met s Holds good g,
        nexts_carried met s Fails good g,
        nexts_carried met s Absent good g,
      )

  pub each_record_carried : (met l : List M.State) → Each Good met → Each Good l → map (record_of N (map enc met)) (map enc l) ≡ map (record_of M met) l
  each_record_carried met [] good each = refl
  each_record_carried met (x ∷ l) good each = rw (record_carried met x good (each_head each), each_record_carried met l good (each_tail each))

  three_carried : (met a b c : List M.State) (s : M.State) {f : ℕ} → Each Good met → Good s → meets M met s ≡ false → M.asks s ≡ true
      → Visits N f (map enc (met ++ s ∷ [])) (enc (M.step Holds s)) (map enc a)
      → Visits N f (map enc (met ++ s ∷ [] ++ a)) (enc (M.step Fails s)) (map enc b)
      → Visits N f (map enc (met ++ s ∷ [] ++ a ++ b)) (enc (M.step Absent s)) (map enc c)
      → Visits N (suc f) (map enc met) (enc s) (map enc (s ∷ (a ++ b ++ c)))
  three_carried met a b c s {f} good g e q v w z =
      rw (map-append enc (a ++ b) c, map-append enc a b)
      (asking {f = f} {a = map enc a} {b = map enc b} {c = map enc c} (meets_carried same met s good g ∙ e) (carried.asks_carried s g ∙ q)
      (rw (carried.step_carried Holds s g q) (rw (map-append enc met (s ∷ [])) at v))
      (rw (carried.step_carried Fails s g q) (rw (map-append enc (met ++ s ∷ []) a, map-append enc met (s ∷ [])) at w))
      (rw (carried.step_carried Absent s g q)
      (rw (map-append enc (met ++ s ∷ [] ++ a) b, map-append enc (met ++ s ∷ []) a, map-append enc met (s ∷ [])) at z)))

  pub visits_carried : {f : ℕ} {met news : List M.State} {s : M.State} → Visits M f met s news → Each Good met → Good s
      → Visits N f (map enc met) (enc s) (map enc news)
  visits_carried {met} {s} (old e) good g = old (meets_carried same met s good g ∙ e)
  visits_carried {met} {s} (final e q) good g = final (meets_carried same met s good g ∙ e) (carried.asks_carried s g ∙ q)
  visits_carried {met} {s} (asking {a = a} {b = b} {c = c} e q v w z) good g =
      let good1 = each_append met (s ∷ []) good (each_cons g (each_nil Good)) in
      let good2 = visits_good law v good1 (law.good_step Holds s g q) in
      three_carried met a b c s good g e q
      (visits_carried v good1 (law.good_step Holds s g q))
      (visits_carried w good2 (law.good_step Fails s g q))
      (visits_carried z (visits_good law w good2 (law.good_step Fails s g q)) (law.good_step Absent s g q))

  each_fit_carried : (l : List M.State) → Each Good l → Each (Fit N) (map enc l)
  each_fit_carried [] good = each_nil (Fit N)
  each_fit_carried (x ∷ l) good =
      let g = each_head good in
      each_cons
      (record { itself = same.same_carried x x g g ∙ law.same_refl x g; long = ap length (carried.question_carried x g) ∙ law.question_long x g })
      (each_fit_carried l (each_tail good))

  -- The builder on encoded states.
  pub placed_carried : (slots f : ℕ) (s₀ : M.State) → Good s₀ → left s₀ < suc f
      → place_all N slots f (enc s₀)
      ≡ cond (leb (length (visit M (suc f) [] s₀)) slots)
      (Some (holding (map enc (visit M (suc f) [] s₀)) (map (record_of M (visit M (suc f) [] s₀)) (visit M (suc f) [] s₀)))) None
  placed_carried slots f s₀ g h =
      let v = visits_exist law f [] s₀ g h in
      let good = visits_good law v.1 (each_nil Good) g in
      rw (visits_visit v.1, ← each_record_carried v.0 v.0 good good, ← length-map v.0 enc)
      (placed_visits N slots (visits_carried v.1 (each_nil Good) g) (each_fit_carried v.0 good))
