-- What the functions that place states ask and promise, in words.
--   Ready       a state lies in slot `at` of those used, and the records tell of their states; Stepping   what making a state asks
--   Shows       a slot's record has the question and the sets of the candidate, where its state is the candidate
--   Stored      what storing a state and its record leaves
--   Grown       the slots used grow, and stay within the slots there are
--   AfterKept   the table's words after the last record stay
--   Asking      the words of a state that asks
--   Leaves      what placing ways or states leaves; Says is what the theory says of the states and records
--   StatePlaced, WayPlaced   what the state builder and the way builder leave: what the theory places with any number of questions that is enough
--   Meeting     what meeting the state c leaves, by the answer
use Rattle.std.specs.Prelude.{ℕ, ◌+◌, ◌*◌, ◌≤◌, ◌<◌, ◌≡◌, true, false, List, length, take, drop, Option, Some, None}
use Rattle.lists.specs.Filters.{max_filters}
use Rattle.tables.specs.Tables.{record_words}
use Rattle.tables.specs.inner.Records.{agree, fresh_by, record_at}
use Rattle.tables.specs.declared.Fresh.{Fresh}
use Rattle.residue.specs.declared.Outcome.{Outcome}
use Rattle.slots.specs.Words.{filter_slot, slot_words}
use Rattle.slots.specs.inner.Slots.{asks_in, same_words}
use Rattle.slots.specs.Asking.{filters_in}
use Rattle.machine.specs.inner.Slots.{slots_in}
use Rattle.machine.specs.inner.Remaining.{GoodWords, tests_left}
use Rattle.automaton.specs.Machines.{meets, place_of}
use Rattle.automaton.specs.inner.Placing.{Placement, Told, stored, place_way, place_state}
use Rattle.builder.specs.inner.Memory.{slot_at, memory_of, states_in, out_of}
use Rattle.builder.specs.declared.Met.{Met}
use Rattle.builder.specs.declared.Met.TheVariants as M

pub record Ready (n slots : ℕ) (ranks : List ℕ) (at used : ℕ) (t s : List ℕ) : Type 0 where
  pub inside : at < used
  pub within : used ≤ slots
  pub told : Told (slots_in n ranks) (memory_of n ranks used t s)

-- A state lies in slot `at`, and the words w have room for the next one.
pub record Stepping (at : ℕ) (s w : List ℕ) : Type 0 where
  pub slotted : slot_words * (at + 1) ≤ length s
  pub filters : filters_in w ≤ max_filters
  pub whole : length w ≡ filter_slot * filters_in w

-- The words of a list's state, which has a question.
pub record Asking (n : ℕ) (ranks w : List ℕ) : Type 0 where
  pub good : GoodWords n ranks w
  pub asks : asks_in n w ≡ true

-- The candidate c with the fresh record f, and slot `at`.
abbrev pub Shows : (n at : ℕ) (t s c : List ℕ) → Fresh → Type 0
Shows n at t s c f = same_words (slot_at n s at) c ≡ true → agree (record_at t at) (fresh_by f) ≡ true

-- The candidate and its record are stored, and no other state, record or word behind is touched.
pub record Stored (n slots : ℕ) (ranks : List ℕ) (used : ℕ) (t s c t' s' : List ℕ) : Type 0 where
  pub memory : memory_of n ranks (used + 1) t' s' ≡ stored (slots_in n ranks) c (memory_of n ranks used t s)
  pub after : drop (record_words * (used + 1)) t' ≡ drop (record_words * (used + 1)) t
  pub kept : take (slot_words * used) s' ≡ take (slot_words * used) s
  pub beyond : drop (slot_words * slots) s' ≡ drop (slot_words * slots) s

abbrev pub Grown : ℕ → ℕ → Option ℕ → Type 0
Grown used slots None = Unit {0}
Grown used slots (Some u) = (used ≤ u) × (u ≤ slots)

abbrev pub AfterKept : Option ℕ → List ℕ → List ℕ → Type 0
AfterKept None t t' = Unit {0}
AfterKept (Some u) t t' = drop (record_words * u) t' ≡ drop (record_words * u) t

pub record Leaves (n slots : ℕ) (ranks : List ℕ) (used : ℕ) (t s : List ℕ) (r : Option ℕ) (t' s' : List ℕ) (Says : Placement (slots_in n ranks) → Type 0) : Type 0 where
  pub comes : Says (out_of n ranks r t' s')
  pub grows : Grown used slots r
  pub after : AfterKept r t t'
  pub behind : drop (record_words * slots) t' ≡ drop (record_words * slots) t
  pub kept : take (slot_words * used) s' ≡ take (slot_words * used) s
  pub beyond : drop (slot_words * slots) s' ≡ drop (slot_words * slots) s

-- The theory is given a number of questions, the code none: any number will do that is no less than the tests that remain in the state of slot `at`.
abbrev pub StatePlaced : (n slots : ℕ) (ranks : List ℕ) (at used : ℕ) (t s : List ℕ) → Option ℕ → List ℕ → List ℕ → Type 0
StatePlaced n slots ranks at used t s r t' s' =
    Leaves n slots ranks used t s r t' s'
    (λ p. (left : ℕ) → tests_left n (slot_at n s at) ≤ left → p ≡ place_state (slots_in n ranks) slots left at (slot_at n s at) (memory_of n ranks used t s))

-- The question that the way answers counts as one of them.
abbrev pub WayPlaced : (n slots : ℕ) (ranks : List ℕ) (o : Outcome) (at used : ℕ) (t s : List ℕ) → Option ℕ → List ℕ → List ℕ → Type 0
WayPlaced n slots ranks o at used t s r t' s' =
    Leaves n slots ranks used t s r t' s'
    (λ p. (left : ℕ) → tests_left n (slot_at n s at) ≤ left + 1
    → p ≡ place_way (slots_in n ranks) slots (place_state (slots_in n ranks) slots left) o at (slot_at n s at) (memory_of n ranks used t s))

-- An old state and a lack of room change no word; a new state takes the next slot and record.
abbrev pub Meeting : (n slots : ℕ) (ranks : List ℕ) → ℕ → List ℕ → List ℕ → List ℕ → Option Met → List ℕ → List ℕ → Type 0
Meeting n slots ranks used t s c (Some (M.Old i)) t' s' =
    (meets (slots_in n ranks) (states_in n used s) c ≡ true) × (place_of (slots_in n ranks) (states_in n used s) c ≡ i) × (i < used) × (t' ≡ t) × (s' ≡ s)
Meeting n slots ranks used t s c (Some M.New) t' s' =
    (meets (slots_in n ranks) (states_in n used s) c ≡ false) × (used < slots) ×
    (memory_of n ranks (used + 1) t' s' ≡ stored (slots_in n ranks) c (memory_of n ranks used t s)) ×
    (drop (record_words * (used + 1)) t' ≡ drop (record_words * (used + 1)) t) ×
    (take (slot_words * used) s' ≡ take (slot_words * used) s) ×
    (drop (slot_words * slots) s' ≡ drop (slot_words * slots) s)
Meeting n slots ranks used t s c None t' s' =
    (meets (slots_in n ranks) (states_in n used s) c ≡ false) × (slots ≤ used) × (t' ≡ t) × (s' ≡ s)
