-- What placing a list's states comes to.
--   FitsSlots      a list has no more filters than a slot has room for
--   all_placed     the words and records of all its states
--   whole          what placing them in so many slots comes to: all of them, or none where they are more than the slots
--   PlacesStates   from these words on, the builder of n filters places the list's states, or finds no slot
use Rattle.std.specs.Prelude.{ℕ, ◌≤◌, ◌≡◌, cond, List, map, leb, length, None, Some}
use Rattle.lists.specs.Filters.{Filter, max_filters}
use Rattle.lists.specs.Ranks.{rank_sets}
use Rattle.slots.specs.inner.Words.{written}
use Rattle.automaton.specs.Machines.{record_of}
use Rattle.automaton.specs.inner.Placing.{Memory, Placement, holding, place_all}
use Rattle.machine.specs.Box.{box_of, states_of}
use Rattle.machine.specs.inner.Slots.{slots_in}

-- A slot has room for so many filters.
abbrev pub FitsSlots : List Filter → Type 0
FitsSlots fs = length fs ≤ max_filters

abbrev pub all_placed : (n : ℕ) (ranks : List ℕ) → List Filter → Memory (slots_in n ranks)
all_placed n ranks fs = holding (map written (states_of fs)) (map (record_of (box_of fs) (states_of fs)) (states_of fs))

-- What placing a list's states comes to in so many slots: their words and records, or a state without one.
abbrev pub whole : (n : ℕ) (ranks : List ℕ) → List Filter → ℕ → Placement (slots_in n ranks)
whole n ranks fs slots = cond (leb (length (states_of fs)) slots) (Some (all_placed n ranks fs)) None

-- With k questions at most to follow one another, from the words w on, the builder of n filters places the list's states, or finds no slot.
abbrev pub PlacesStates : List Filter → ℕ → ℕ → ℕ → List ℕ → Type 0
PlacesStates fs n slots k w = place_all (slots_in n (rank_sets fs)) slots k w ≡ whole n (rank_sets fs) fs slots
