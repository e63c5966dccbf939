-- Document 01, "States and the table" and demand 3: the path of a frame, where field n of the frame reads r n.
--   way_of r q          what the question q comes to
--   advance fs r s     the state after the question of s has been answered; a final state stays
--   run fs r n s       after n questions at most
--   asked_in fs r n s   how many were asked
--   follow fs os s     the state after the outcomes os, whatever frame gave them
--   asks a             the question a asks something
--   asks_all fs os s    each of the outcomes os answers a question of the state that it meets
use Rattle.std.specs.Prelude.{ℕ, zero, suc, ◌+◌, Bool, true, false, ◌&&◌, List, [], ◌∷◌, Option}
use Rattle.residue.specs.Facts.{outcome_of}
use Rattle.residue.specs.declared.Outcome.{Outcome}
use Rattle.lists.specs.Filters.{Item, Filter}
use Rattle.states.specs.States.{State, Question, nothing, ask, question_of, step_by, step}

unfoldable pub way_of : (ℕ → Option ℕ) → Item → Outcome
way_of r q = outcome_of q.test (r q.field)

unfoldable pub advance_at : List Filter → (ℕ → Option ℕ) → Question → State → State
advance_at fs r nothing s = s
advance_at fs r (ask q) s = step_by fs (way_of r q) q s

unfoldable pub advance : List Filter → (ℕ → Option ℕ) → State → State
advance fs r s = advance_at fs r (question_of s) s

unfoldable pub run : List Filter → (ℕ → Option ℕ) → ℕ → State → State
run fs r zero s = s
run fs r (suc n) s = run fs r n (advance fs r s)

unfoldable pub asked_at : Question → ℕ → ℕ
asked_at nothing n = 0
asked_at (ask q) n = n + 1

unfoldable pub asked_in : List Filter → (ℕ → Option ℕ) → ℕ → State → ℕ
asked_in fs r zero s = 0
asked_in fs r (suc n) s = asked_at (question_of s) (asked_in fs r n (advance fs r s))

unfoldable pub follow : List Filter → List Outcome → State → State
follow fs [] s = s
follow fs (o ∷ os) s = follow fs os (step fs o s)

unfoldable pub asks : Question → Bool
asks nothing = false
asks (ask q) = true

unfoldable pub asks_all : List Filter → List Outcome → State → Bool
asks_all fs [] s = true
asks_all fs (o ∷ os) s = asks (question_of s) && asks_all fs os (step fs o s)
