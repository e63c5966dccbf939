-- What is said of states of a machine and of lists of them.
--   Reached M s t       outcomes lead from s to t, each from a state that asks
--   Distinct M met      no state stands twice in met
use Rattle.std.specs.Prelude.{◌≡◌, true, false, List, [], ◌∷◌}
use Rattle.residue.specs.declared.Outcome.{Outcome}
use Rattle.automaton.specs.Machines.{Machine}

pub data Reached (M : Machine) (s : M.State) : M.State → Type 0 where
  start : Reached M s s
  further : {t : M.State} (o : Outcome) → Reached M s t → M.asks t ≡ true → Reached M s (M.step o t)

-- No state of the list is the same as x.
pub data Apart (M : Machine) (x : M.State) : List M.State → Type 0 where
  apart_none : Apart M x []
  apart_more : {y : M.State} {ys : List M.State} → M.same x y ≡ false → Apart M x ys → Apart M x (y ∷ ys)

pub data Distinct (M : Machine) : List M.State → Type 0 where
  distinct_none : Distinct M []
  distinct_more : {x : M.State} {xs : List M.State} → Apart M x xs → Distinct M xs → Distinct M (x ∷ xs)
