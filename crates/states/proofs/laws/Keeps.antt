-- The path of a frame and the states that outcomes lead to, both by document 01's questions, are paths by remaining tests: what each question keeps, they keep.
--   by_question            a state is final or asks
--   question_left, left_asks   the question of a state is one of its remaining tests, and it has one where any remains
--   picks_run              the frame's path by document 01's questions, up to the allowance or to a final state, is run, and its count asked_in
--   follow_leads           outcomes lead on by a question each, as long as there is one
use Prim.Native.Nat.{ℕ, zero, suc, ◌≤◌}
use Rattle.std.specs.Prelude.{◌≡◌, ◌⊎◌, false, ◌&&◌, Option}
use Rattle.std.proofs.Math.Path.{refl, ap}
use Rattle.std.proofs.Common.{sym, ◌∙◌, subst, ⊎_elim, not-suc-le-zero, le_of_suc-le-suc}
use Rattle.std.proofs.Math.Logic.{inl, inr}
use Rattle.std.proofs.Math.Bool.{true}
use Rattle.std.proofs.lemmas.Bool.{false≢true}
use mathlib.Core.List.{List, [], ◌∷◌}
use Rattle.std.proofs.Math.Nat.{suc_inj}
use Rattle.std.proofs.Math.Numerals.{add-one}
use Rattle.std.proofs.Math.ListN.{length}
use Rattle.residue.specs.declared.Outcome.{Outcome}
use Rattle.lists.specs.Filters.{Item, Filter}
use Rattle.states.specs.States.{out, left, State, Question, nothing, ask, question_of, step_by, step_at, step}
use Rattle.states.specs.Runs.{way_of, advance_at, advance, run, asked_at, asked_in, follow, asks, asks_all}
use Rattle.states.proofs.laws.Same.{same_item_refl}
use Rattle.states.proofs.laws.Choices.{leads_keeps}
use Rattle.states.specs.inner.Choices.{among, left_in, Leads, leads_none, leads_more, Chosen, Picked, OfFrame, Free}

pub none_asked : (q : Item) → nothing ≡ ask q → ⊥
none_asked q z = let y : true ≡ false = cc in false≢true (sym y)

pub by_question : (P : Type 0) (s : State) → (question_of s ≡ nothing → P) → ((q : Item) → question_of s ≡ ask q → P) → P
by_question P s f g = go (question_of s) refl
  where
    go : (a : Question) → question_of s ≡ a → P
    go nothing e = f e
    go (ask q) e = g q e

pub question_left : (q : Item) (s : State) → Picked q s → Chosen q s
unfolding question_of left_in among
question_left q [] e = absurd (none_asked q e)
question_left q (out ∷ s) e = question_left q s e
question_left q (left [] ∷ s) e = question_left q s e
question_left q (left (t ∷ ts) ∷ s) e =
    let z : t ≡ q = cc in
    subst (λ (u : Item). left_in u (left (t ∷ ts) ∷ s) ≡ true) z (rw (same_item_refl t))

-- A state that has a remaining test has a question.
pub left_asks : (q : Item) (s : State) → Chosen q s → question_of s ≡ nothing → ⊥
unfolding question_of left_in among
left_asks q [] h e = false≢true h
left_asks q (out ∷ s) h e = left_asks q s h e
left_asks q (left [] ∷ s) h e = left_asks q s h e
left_asks q (left (t ∷ ts) ∷ s) h e = none_asked t (sym e)

-- ---- a state that asks, and one that does not

pub step_ask : (fs : List Filter) (o : Outcome) (q : Item) (s : State) → question_of s ≡ ask q → step fs o s ≡ step_by fs o q s
unfolding step step_at
step_ask fs o q s e = ap (λ (a : Question). step_at fs o a s) e

module _ (fs : List Filter) (r : ℕ → Option ℕ) where
  pub advance_ask : (q : Item) (s : State) → question_of s ≡ ask q → advance fs r s ≡ step_by fs (way_of r q) q s
  unfolding advance advance_at
  advance_ask q s e = ap (λ (a : Question). advance_at fs r a s) e

  pub run_stays : (n : ℕ) (s : State) → question_of s ≡ nothing → run fs r n s ≡ s
  unfolding run advance advance_at
  run_stays zero s e = refl
  run_stays (suc n) s e = ap (λ (a : Question). run fs r n (advance_at fs r a s)) e ∙ run_stays n s e

  pub asked_none : (n : ℕ) (s : State) → question_of s ≡ nothing → asked_in fs r n s ≡ 0
  unfolding asked_in asked_at
  asked_none zero s e = refl
  asked_none (suc n) s e = ap (λ (a : Question). asked_at a (asked_in fs r n (advance fs r s))) e

  pub asked_ask : (n : ℕ) (q : Item) (s : State) → question_of s ≡ ask q → asked_in fs r (suc n) s ≡ suc (asked_in fs r n (advance fs r s))
  unfolding asked_in asked_at
  asked_ask n q s e = ap (λ (a : Question). asked_at a (asked_in fs r n (advance fs r s))) e ∙ add-one _

  -- ---- the path of a frame

  pub picks_run :
      (n : ℕ) {k : ℕ} {s t : State} → Leads fs (OfFrame r Picked) k s t → k ≤ n → (k ≡ n) ⊎ (question_of t ≡ nothing) → (run fs r n s ≡ t) × (asked_in fs r n s ≡ k)
  unfolding run asked_in
  picks_run n {s = s} leads_none l (inl e) = rw (← e) (refl, refl)
  picks_run n {s = s} leads_none l (inr e) = (run_stays n s e, asked_none n s e)
  picks_run zero (leads_more q o a p) l e = absurd (not-suc-le-zero l)
  picks_run (suc n) (leads_more {n = k} {s = s} {t = t} q o a p) l e =
      let next : advance fs r s ≡ step_by fs o q s = advance_ask q s a.0 ∙ ap (λ (x : Outcome). step_by fs x q s) (sym a.1) in
      let rest = picks_run n p (le_of_suc-le-suc l) (⊎_elim (λ (z : suc k ≡ suc n). inl (suc_inj z)) (λ (z : question_of t ≡ nothing). inr z) e) in
      (ap (run fs r n) next ∙ rest.0, asked_ask n q s a.0 ∙ ap suc (ap (asked_in fs r n) next ∙ rest.1))

-- ---- any outcomes

module _ (fs : List Filter) where
  -- As many questions as outcomes, where each answers one.
  pub follow_leads : (os : List Outcome) (s : State) → (k : ℕ) × Leads fs Free k s (follow fs os s) × (asks_all fs os s ≡ true → k ≡ length os)
  unfolding follow step step_at asks_all asks
  follow_leads [] s = (zero, leads_none, λ _. refl)
  follow_leads (o ∷ os) s = go (follow_leads os) (question_of s) refl
    where
      go : ((x : State) → (k : ℕ) × Leads fs Free k x (follow fs os x) × (asks_all fs os x ≡ true → k ≡ length os)) → (a : Question) → question_of s ≡ a →
          (k : ℕ) × Leads fs Free k s (follow fs os (step_at fs o a s)) × ((asks a && asks_all fs os (step_at fs o a s)) ≡ true → k ≡ suc (length os))
      go on nothing e = let p = on s in (p.0, p.1, λ h. absurd (false≢true h))
      go on (ask q) e = let p = on (step_by fs o q s) in (suc p.0, leads_more q o (question_left q s e) p.1, λ h. ap suc (p.2 h))

  module _ (P : State → Type 0) (kept : (o : Outcome) (q : Item) (s : State) → Chosen q s → P s → P (step_by fs o q s)) where
    pub follow_keeps : (os : List Outcome) (s : State) → P s → P (follow fs os s)
    follow_keeps os s p = leads_keeps P (λ q o x a z. kept o q x a z) (follow_leads os s).1 p

    pub step_keeps : (o : Outcome) (s : State) → P s → P (step fs o s)
    unfolding follow
    step_keeps o s p = follow_keeps (o ∷ []) s p
