-- The states and records that the words of scratch and table hold while they are placed.
--   slot_at n s i        the words of the state in slot i, of a list of n filters
--   memory_of n u t s    the first u states and their records
--   out_of n r k t s     what the words left behind hold, with k slots used, or none left for a new state
--   sought_in n ranks met c   where the candidate c stands among the states met, if it does
use Rattle.std.specs.Prelude.{ℕ, ◌*◌, cond, List, take, drop, Option, Some, None}
use Rattle.sets.specs.Sets.{tally}
use Rattle.tables.specs.inner.Records.{record_at}
use Rattle.slots.specs.Words.{filter_slot, slot_words}
use Rattle.machine.specs.inner.Slots.{slots_in}
use Rattle.automaton.specs.Machines.{meets, place_of}
use Rattle.automaton.specs.inner.Placing.{Memory, Placement}

unfoldable pub slot_at : ℕ → List ℕ → ℕ → List ℕ
slot_at n s i = take (filter_slot * n) (drop (slot_words * i) s)

unfoldable pub states_in : ℕ → ℕ → List ℕ → List (List ℕ)
states_in n u s = tally u (λ i. slot_at n s i)

unfoldable pub records_at : ℕ → List ℕ → List (List ℕ)
records_at u t = tally u (λ i. record_at t i)

unfoldable pub memory_of : (n : ℕ) (ranks : List ℕ) → ℕ → List ℕ → List ℕ → Memory (slots_in n ranks)
memory_of n ranks u t s = record { met = states_in n u s; records = records_at u t }

unfoldable pub out_of : (n : ℕ) (ranks : List ℕ) → Option ℕ → List ℕ → List ℕ → Placement (slots_in n ranks)
out_of n ranks None t s = None
out_of n ranks (Some u) t s = Some (memory_of n ranks u t s)

-- Where the candidate c stands among the states met, if it does.
unfoldable pub sought_in : (n : ℕ) (ranks : List ℕ) → List (List ℕ) → List ℕ → Option ℕ
sought_in n ranks met c = cond (meets (slots_in n ranks) met c) (Some (place_of (slots_in n ranks) met c)) None
