-- Paths by any choice of questions. Document 01 picks the first remaining test of the first filter that has any; what makes a path right asks only that each question is some remaining test of the state that it meets.
--   among q ts, left_in q s   q is one of the tests ts; one of the remaining tests of some filter of s
--   Leads fs Allowed n s t   n questions lead from s to t; Allowed says of each, of its outcome and of the state that it meets whether it may be
--   Chosen, Picked           the question is one of the remaining tests; it is the one that document 01 picks
--   OfFrame r May            the question is one that May allows of the state, and its outcome is that of the frame whose field k reads r k
--   Path fs r n s t          a path of that frame, by n remaining tests
--   Free                     the question is one of the remaining tests, whatever its outcome
use Rattle.std.specs.Prelude.{ℕ, zero, suc, ◌≡◌, Bool, true, false, ◌||◌, List, [], ◌∷◌, Option}
use Rattle.residue.specs.declared.Outcome.{Outcome}
use Rattle.lists.specs.Filters.{Item, Filter}
use Rattle.states.specs.States.{out, left, State, ask, question_of, step_by}
use Rattle.states.specs.Runs.{way_of}
use Rattle.states.specs.Same.{same_item}

unfoldable pub among : Item → List Item → Bool
among q [] = false
among q (t ∷ ts) = same_item q t || among q ts

unfoldable pub left_in : Item → State → Bool
left_in q [] = false
left_in q (out ∷ s) = left_in q s
left_in q (left ts ∷ s) = among q ts || left_in q s

pub data Leads (fs : List Filter) (Allowed : Item → Outcome → State → Type 0) : ℕ → State → State → Type 0 where
  leads_none : {s : State} → Leads fs Allowed zero s s
  leads_more : {n : ℕ} {s t : State} (q : Item) (o : Outcome) → Allowed q o s → Leads fs Allowed n (step_by fs o q s) t → Leads fs Allowed (suc n) s t

abbrev pub Chosen : Item → State → Type 0
Chosen q s = left_in q s ≡ true

abbrev pub Picked : Item → State → Type 0
Picked q s = question_of s ≡ ask q

abbrev pub OfFrame : (ℕ → Option ℕ) → (Item → State → Type 0) → Item → Outcome → State → Type 0
OfFrame r May q o s = May q s × (o ≡ way_of r q)

abbrev pub Path : List Filter → (ℕ → Option ℕ) → ℕ → State → State → Type 0
Path fs r n s t = Leads fs (OfFrame r Chosen) n s t

abbrev pub Free : Item → Outcome → State → Type 0
Free q o s = Chosen q s
