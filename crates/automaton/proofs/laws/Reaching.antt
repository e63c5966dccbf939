-- The states met from a start are those that outcomes reach from it, and they are closed under step.
--   Explored M met s news  after met and news, s is met and so are the ways of every state of news
use Rattle.std.specs.Prelude.{ℕ, zero, suc, ◌<◌, ◌≡◌, refl, true, get_or}
use Rattle.std.proofs.Common.{not-suc-le-zero, sym, ap, ◌∙◌, subst, ⊎_elim}
use Rattle.std.proofs.lemmas.Bool.{false≢true}
use mathlib.Core.List.Memᴰ
use mathlib.Core.List.{List, [], ◌∷◌, ◌++◌, Memᴰ}
use Rattle.residue.specs.declared.Outcome.{Outcome}
use Rattle.residue.specs.declared.Outcome.TheVariants.{Holds, Fails, Absent}
use Rattle.automaton.specs.Machines.{Machine, meets, place_of, visit}
use Rattle.automaton.proofs.laws.Lists.{each_nil, each_cons, each_append, Each}
use Rattle.automaton.specs.Lawful.{Reached, start, further, Distinct, distinct_none}
use Rattle.automaton.specs.inner.Lawful.{Lawful}
use Rattle.automaton.proofs.laws.Visited.{Visits, old, final, asking, Visit, visit_visits, three_ways, visit_start, visit_distinct}
use Rattle.automaton.proofs.laws.Places.{mem_meets, meets_mem, meets_nil, place_new, place_state_lem}

pub record Explored (M : Machine) (met : List M.State) (s : M.State) (news : List M.State) : Type 0 where
  pub has : Memᴰ s (met ++ news)
  pub closed : (o : Outcome) (t : M.State) → Memᴰ t news → M.asks t ≡ true → Memᴰ (M.step o t) (met ++ news)

pub reached_on : {M : Machine} {s t u : M.State} → Reached M s t → Reached M t u → Reached M s u
reached_on r start = r
reached_on r (further o q asks) = further o (reached_on r q) asks

-- What a visit adds is reached from its state.
pub visits_reached : {M : Machine} {f : ℕ} {met news : List M.State} {s : M.State} → Visits M f met s news → Each (Reached M s) news
visits_reached {M} {s} (old e) = each_nil (Reached M s)
visits_reached {M} {s} (final e q) = each_cons start (each_nil (Reached M s))
visits_reached {M} (asking {a = a} {b = b} {c = c} {s = s} e q v w z) =
    each_cons start
    (each_append (a ++ b) c
    (each_append a b (from Holds (visits_reached v)) (from Fails (visits_reached w)))
    (from Absent (visits_reached z)))
  where
    from : (o : Outcome) {l : List M.State} → Each (Reached M (M.step o s)) l → Each (Reached M s) l
    from o each t m = reached_on (further o start q) (each t m)

module _ {M : Machine} {Good : M.State → Type 0} {left : M.State → ℕ} (law : Lawful M Good left) where
  pub reached_good : {s t : M.State} → Good s → Reached M s t → Good t
  reached_good g start = g
  reached_good g (further {t = t} o r q) = law.good_step o t (reached_good g r) q

  pub visits_good : {f : ℕ} {met news : List M.State} {s : M.State} → Visits M f met s news → Each Good met → Good s → Each Good (met ++ news)
  visits_good {met} {news} v good g = each_append met news good (λ t m. reached_good g (visits_reached v t m))

  visits_has : (met a b c : List M.State) (s : M.State) (o : Outcome) → Explored M (met ++ s ∷ []) (M.step Holds s) a
      → Explored M (met ++ s ∷ [] ++ a) (M.step Fails s) b → Explored M (met ++ s ∷ [] ++ a ++ b) (M.step Absent s) c
      → Memᴰ (M.step o s) (met ++ s ∷ [] ++ a ++ b ++ c)
  visits_has met a b c s Holds v w z = Memᴰ.append_left c (Memᴰ.append_left b v.has)
  visits_has met a b c s Fails v w z = Memᴰ.append_left c w.has
  visits_has met a b c s Absent v w z = z.has

  visits_closed : (met a b c : List M.State) (s : M.State) → Explored M (met ++ s ∷ []) (M.step Holds s) a
      → Explored M (met ++ s ∷ [] ++ a) (M.step Fails s) b → Explored M (met ++ s ∷ [] ++ a ++ b) (M.step Absent s) c
      → (o : Outcome) (t : M.State) → Memᴰ t (s ∷ (a ++ b ++ c)) → M.asks t ≡ true → Memᴰ (M.step o t) (met ++ s ∷ [] ++ a ++ b ++ c)
  visits_closed met a b c s v w z o t m q =
      ⊎_elim (λ (e : t ≡ s). Memᴰ.cast (ap (M.step o) e) (visits_has met a b c s o v w z))
      (λ (m : Memᴰ t (a ++ b ++ c)).
      ⊎_elim
      (λ (m : Memᴰ t (a ++ b)).
      ⊎_elim (λ (m : Memᴰ t a). Memᴰ.append_left c (Memᴰ.append_left b (v.closed o t m q)))
      (λ (m : Memᴰ t b). Memᴰ.append_left c (w.closed o t m q))
      (Memᴰ.append_cases a m))
      (λ (m : Memᴰ t c). z.closed o t m q)
      (Memᴰ.append_cases (a ++ b) m))
      (Memᴰ.cases_cons m)

  -- What a visit adds has all its ways met.
  pub visits_explored : {f : ℕ} {met news : List M.State} {s : M.State} → Visits M f met s news → Each Good met → Good s → Explored M met s news
  visits_explored {met} {s} (old e) good g =
      record { has = Memᴰ.append_left [] (meets_mem law met s good e); closed = λ o t m q. absurd (Memᴰ.not-nil m) }
  visits_explored {met} {s} (final e n) good g =
      record {
        has = Memᴰ.append_right met (Memᴰ.head refl);
        closed = λ o t m q. absurd (false≢true (sym n ∙ sym (ap M.asks (Memᴰ.eq_of_singleton m)) ∙ q));
      }
  visits_explored {met} {s} (asking {a = a} {b = b} {c = c} e n v w z) good g =
      let good1 = each_append met (s ∷ []) good (each_cons g (each_nil Good)) in
      let good2 = visits_good v good1 (law.good_step Holds s g n) in
      let good3 = visits_good w good2 (law.good_step Fails s g n) in
      let v' = visits_explored v good1 (law.good_step Holds s g n) in
      let w' = visits_explored w good2 (law.good_step Fails s g n) in
      let z' = visits_explored z good3 (law.good_step Absent s g n) in
      record {
        has = Memᴰ.append_right met (Memᴰ.head refl);
        closed = λ o t m q. subst (λ (l : List M.State). Memᴰ (M.step o t) l) (three_ways met s a b c) (visits_closed met a b c s v' w' z' o t m q);
      }

  -- All states met from a start.
  module _ (f : ℕ) (s₀ : M.State) (good : Good s₀) (enough : left s₀ < f) where
    all_visits : Visit M f [] s₀
    all_visits = visit_visits law f [] s₀ good enough

    explored : Explored M [] s₀ (visit M f [] s₀)
    explored = rw all_visits.out (visits_explored all_visits.way (each_nil Good) good)

    pub all_each_good : Each Good (visit M f [] s₀)
    all_each_good = rw all_visits.out (visits_good all_visits.way (each_nil Good) good)

    pub all_good : (s : M.State) → meets M (visit M f [] s₀) s ≡ true → Good s
    all_good s e = all_each_good s (meets_mem law (visit M f [] s₀) s all_each_good e)

    pub all_closed : (o : Outcome) (s : M.State) → meets M (visit M f [] s₀) s ≡ true → M.asks s ≡ true → meets M (visit M f [] s₀) (M.step o s) ≡ true
    all_closed o s e q =
        mem_meets law (law.good_step o s (all_good s e) q) (explored.closed o s (meets_mem law (visit M f [] s₀) s all_each_good e) q)

    pub all_start : meets M (visit M f [] s₀) s₀ ≡ true
    all_start = mem_meets law good explored.has

    pub all_reached : (s : M.State) → meets M (visit M f [] s₀) s ≡ true → Reached M s₀ s
    all_reached s e = each_reached s (meets_mem law (visit M f [] s₀) s all_each_good e)
      where
        each_reached : Each (Reached M s₀) (visit M f [] s₀)
        each_reached = rw all_visits.out (visits_reached all_visits.way)

    pub reached_all : {s : M.State} → Reached M s₀ s → meets M (visit M f [] s₀) s ≡ true
    reached_all start = all_start
    reached_all (further {t = t} o r q) = all_closed o t (reached_all r) q

    pub all_distinct : Distinct M (visit M f [] s₀)
    all_distinct = visit_distinct M f [] s₀ distinct_none

    pub all_place_state : (s d : M.State) → meets M (visit M f [] s₀) s ≡ true → get_or (visit M f [] s₀) (place_of M (visit M f [] s₀) s) d ≡ s
    all_place_state s d e = place_state_lem law (visit M f [] s₀) s d all_each_good e

    pub all_place_start : place_of M (visit M f [] s₀) s₀ ≡ 0
    all_place_start = go f enough
      where
        go : (f : ℕ) → left s₀ < f → place_of M (visit M f [] s₀) s₀ ≡ 0
        go zero h = absurd (not-suc-le-zero h)
        go (suc f) h =
            let b = visit_start M f s₀ in
            rw b.grown (place_new M [] b.rest s₀ (meets_nil M s₀) (law.same_refl s₀ good))
