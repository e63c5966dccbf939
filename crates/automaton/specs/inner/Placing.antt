-- How the builder places states and records, one after the other, for any machine; no part of document 01.
--   Memory           the states stored so far and their records, whose next numbers are put in as they become known
--   holding met records   the two lists as a memory
--   Placement        the memory afterwards, all states in slots; none where a new state found no slot
--   place_state       builds the three ways of the state stored at a place, with n slots in all; f is more than the questions that can follow
--   place_way         builds one way: its state is met, built if it is new, and its number put into the record
--   Told M m         each record of the memory has the question and the sets of its state
use Rattle.std.specs.Prelude.{ℕ, zero, suc, ◌≡◌, true, false, List, [], ◌∷◌, ◌++◌, leb, length, get_or, set, Option, None, Some}
use Rattle.residue.specs.declared.Outcome.{Outcome}
use Rattle.residue.specs.declared.Outcome.TheVariants.{Holds, Fails, Absent}
use Rattle.tables.specs.Tables.{next_at}
use Rattle.tables.specs.inner.Records.{fresh_record, agree}
use Rattle.automaton.specs.Machines.{Machine, meets, place_of}

pub record Memory (M : Machine) : Type 0 where
  pub met : List M.State
  pub records : List (List ℕ)

abbrev pub holding : {M : Machine} → List M.State → List (List ℕ) → Memory M
holding met records = record { met = met; records = records }

abbrev pub Placement : Machine → Type 0
Placement M = Option (Memory M)

-- A record with no next numbers yet.
unfoldable pub fresh_of : (M : Machine) → M.State → List ℕ
fresh_of M s = fresh_record (M.question s) (M.sure s) (M.out s)

unfoldable pub stored : (M : Machine) → M.State → Memory M → Memory M
stored M s m = record { met = m.met ++ (s ∷ []); records = m.records ++ (fresh_of M s ∷ []) }

unfoldable pub linked : (M : Machine) → Outcome → ℕ → ℕ → Memory M → Memory M
linked M o at next m = record { met = m.met; records = set m.records at (set (get_or m.records at []) (next_at o) next) }

unfoldable pub and_then : (M : Machine) → Placement M → (Memory M → Placement M) → Placement M
and_then M None f = None
and_then M (Some m) f = f m

-- `build at m` builds the ways of the new state at place `at`; `s` is the state stored at place `at`.
unfoldable pub place_way : (M : Machine) → ℕ → (ℕ → M.State → Memory M → Placement M) → Outcome → ℕ → M.State → Memory M → Placement M
place_way M slots build o at s m =
    elim (meets M m.met (M.step o s)) [
      | true ↦ Some (linked M o at (place_of M m.met (M.step o s)) m)
      | false ↦ elim (leb slots (length m.met)) [
        | true ↦ None
        | false ↦ and_then M (build (length m.met) (M.step o s) (stored M (M.step o s) m))
            (λ m'. Some (linked M o at (length m.met) m'))
      ]
    ]

unfoldable pub place_state : (M : Machine) → ℕ → ℕ → ℕ → M.State → Memory M → Placement M
place_state M slots zero at s m = Some m
place_state M slots (suc f) at s m =
    elim (M.asks s) [
      | true ↦ and_then M (place_way M slots (place_state M slots f) Holds at s m)
          (λ m₁. and_then M (place_way M slots (place_state M slots f) Fails at s m₁)
          (λ m₂. place_way M slots (place_state M slots f) Absent at s m₂))
      | false ↦ Some m
    ]

-- The whole: the start is state 0.
unfoldable pub place_all : (M : Machine) → ℕ → ℕ → M.State → Placement M
place_all M slots f s =
    elim (leb slots 0)
    [ true ↦ None | false ↦ place_state M slots f 0 s (stored M s (record { met = []; records = [] })) ]

-- Whatever its next numbers are by now: as many records as states, and each agrees with the fresh record of its state.
unfoldable pub ToldIn : (M : Machine) → List M.State → List (List ℕ) → Type 0
ToldIn M [] [] = Unit {0}
ToldIn M [] (r ∷ records) = ⊥
ToldIn M (s ∷ met) [] = ⊥
ToldIn M (s ∷ met) (r ∷ records) = (agree r (fresh_of M s) ≡ true) × ToldIn M met records

abbrev pub Told : (M : Machine) → Memory M → Type 0
Told M m = ToldIn M m.met m.records
