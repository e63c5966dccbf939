-- No path of a well-formed list asks the same question twice, whatever outcomes lead to it and follow it.
use Rattle.std.specs.Prelude.{◌≡◌, true, List}
use Rattle.std.proofs.Common.{subst}
use Rattle.residue.specs.declared.Outcome.{Outcome}
use Rattle.lists.specs.Filters.{Item, Filter}
use Rattle.lists.specs.inner.Well.{well_filters}
use Rattle.states.specs.States.{State, start, ask, question_of, step}
use Rattle.states.specs.Runs.{follow}
use Rattle.states.proofs.laws.Asked.{never_twice}
use Rattle.states.proofs.laws.Keeps.{step_ask}
use Rattle.states.proofs.laws.Well.{well_start, well_follow}

pub once :
    (fs : List Filter) → well_filters fs ≡ true → (os os' : List Outcome) (o : Outcome) (q : Item) → question_of (follow fs os (start fs)) ≡ ask q →
    question_of (follow fs os' (step fs o (follow fs os (start fs)))) ≡ ask q → ⊥
once fs h os os' o q e again =
    let x = follow fs os (start fs) in
    never_twice fs o os' q x (well_follow fs os (start fs) (well_start fs h)) e
    (subst (λ (y : State). question_of (follow fs os' y) ≡ ask q) (step_ask fs o q x e) again)
