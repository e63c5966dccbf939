-- Document 01, "States and the table", second and third paragraph, for any machine.
--   Machine          states that are compared, asked and stepped by an outcome; the words that a record has of a state alone
--   meets M met s    s is one of the states met
--   place_of M met s  its number: its place among the states met
--   visit M f met s  the states met once s has been met and built to its end, after those of met; f is more than the questions that can follow
--   nexts_of M met s  the next number at each outcome, 0 where s has no question
--   record_of M met s the words of the record of s
--   records_of M met  the records of all states met, in the order of their numbers
use Rattle.std.specs.Prelude.{ℕ, zero, suc, ◌+◌, Bool, true, false, cond, ◌||◌, List, [], ◌∷◌, ◌++◌, map}
use Rattle.residue.specs.declared.Outcome.{Outcome}
use Rattle.residue.specs.declared.Outcome.TheVariants.{Holds, Fails, Absent}
use Rattle.tables.specs.Tables.{record_with}

pub record Machine : Type 1 where
  pub State : Type 0
  pub same : State → State → Bool
  -- the state has a question
  pub asks : State → Bool
  pub step : Outcome → State → State
  -- kind, field, mask and value of the question; zeros where there is none
  pub question : State → List ℕ
  -- the sure set and the out set
  pub sure : State → ℕ
  pub out : State → ℕ

unfoldable pub meets : (M : Machine) → List M.State → M.State → Bool
meets M [] s = false
meets M (x ∷ met) s = M.same x s || meets M met s

unfoldable pub place_of : (M : Machine) → List M.State → M.State → ℕ
place_of M [] s = 0
place_of M (x ∷ met) s = cond (M.same x s) 0 (place_of M met s + 1)

-- Holds, fails, absent, each to its end before the next; visit_next meets a state with less fuel.
unfoldable pub visit_ways : (M : Machine) → (List M.State → M.State → List M.State) → List M.State → M.State → List M.State
visit_ways M visit_next met s = visit_next (visit_next (visit_next met (M.step Holds s)) (M.step Fails s)) (M.step Absent s)

-- A state that is new takes the next number; then its ways are built, if it asks.
unfoldable pub visit : (M : Machine) → ℕ → List M.State → M.State → List M.State
visit M zero met s = met
visit M (suc f) met s =
    elim (meets M met s) [
      | true ↦ met
      | false ↦ elim (M.asks s) [
        | true ↦ visit_ways M (visit M f) (met ++ (s ∷ [])) s
        | false ↦ met ++ (s ∷ [])
      ]
    ]

unfoldable pub nexts_of : (M : Machine) → List M.State → M.State → Outcome → ℕ
nexts_of M met s o = cond (M.asks s) (place_of M met (M.step o s)) 0

unfoldable pub record_of : (M : Machine) → List M.State → M.State → List ℕ
record_of M met s = record_with (M.question s) (nexts_of M met s) (M.sure s) (M.out s)

unfoldable pub flat : List (List ℕ) → List ℕ
flat [] = []
flat (ws ∷ wss) = ws ++ flat wss

unfoldable pub records_of : (M : Machine) → List M.State → List ℕ
records_of M met = flat (map (record_of M met) met)
