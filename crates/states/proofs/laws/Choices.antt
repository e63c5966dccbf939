-- What paths by any choice of questions keep, and that a path by some of the remaining tests is a path.
-- Assumes nothing.
use Rattle.std.specs.Prelude.{ℕ, List, Option}
use Rattle.std.proofs.Common.{sym, subst}
use Rattle.residue.specs.declared.Outcome.{Outcome}
use Rattle.lists.specs.Filters.{Item, Filter}
use Rattle.states.specs.States.{State, step_by}
use Rattle.states.specs.Runs.{way_of}
use Rattle.states.specs.inner.Choices.{Chosen, Free, Leads, OfFrame, Path, leads_more, leads_none}

-- What each question keeps, all of them keep.
pub leads_keeps :
    {fs : List Filter} {Allowed : Item → Outcome → State → Type 0} (P : State → Type 0) → ((q : Item) (o : Outcome) (s : State) → Allowed q o s → P s → P (step_by fs o q s)) →
    {n : ℕ} {s t : State} → Leads fs Allowed n s t → P s → P t
leads_keeps P kept leads_none p = p
leads_keeps P kept (leads_more {s = s} q o a l) p = leads_keeps P kept l (kept q o s a p)

pub leads_weaken :
    {fs : List Filter} {A B : Item → Outcome → State → Type 0} → ((q : Item) (o : Outcome) (s : State) → A q o s → B q o s) →
    {n : ℕ} {s t : State} → Leads fs A n s t → Leads fs B n s t
leads_weaken f leads_none = leads_none
leads_weaken f (leads_more {s = s} q o a l) = leads_more q o (f q o s a) (leads_weaken f l)

module _ (fs : List Filter) (r : ℕ → Option ℕ) where
  -- Questions that are remaining tests make a path of the frame, and that is a path.
  pub path_of :
      {May : Item → State → Type 0} → ((q : Item) (s : State) → May q s → Chosen q s) → {n : ℕ} {s t : State} → Leads fs (OfFrame r May) n s t → Path fs r n s t
  path_of chosen p = leads_weaken (λ q o s a. (chosen q s a.0, a.1)) p

  pub path_free : {n : ℕ} {s t : State} → Path fs r n s t → Leads fs Free n s t
  path_free p = leads_weaken (λ q o s a. a.0) p

  pub path_keeps :
      (P : State → Type 0) → ((q : Item) (s : State) → Chosen q s → P s → P (step_by fs (way_of r q) q s)) → {n : ℕ} {s t : State} → Path fs r n s t → P s → P t
  path_keeps P kept p = leads_keeps P (λ q o s a x. subst (λ (y : Outcome). P (step_by fs y q s)) (sym a.1) (kept q s a.0 x)) p
