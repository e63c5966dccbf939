-- The promises over what placing has at hand: a builder b before a function, b' after it.
--   Same          what no function changes: the sizes, the ranks, and which words are lent
--   filters, machine   how many filters its words are of; the machine of its list on the words of slots
--   state_at      the state in a slot
--   Made          what making a state, in the words, leaves
--   Search        what looking for it asks
--   ReadyIn, AskingIn, GoodIn, StoredIn, MeetingIn, StatePlacedIn, WayPlacedIn   as the words without In, of a builder's sizes and words
use Rattle.std.specs.Prelude.{ℕ, ◌≤◌, ◌<◌, ◌≡◌, List, length, Option}
use Rattle.residue.specs.declared.Outcome.{Outcome}
use Rattle.tables.specs.declared.Fresh.{Fresh}
use Rattle.slots.specs.inner.Slots.{step_words}
use Rattle.slots.specs.Asking.{filters_in}
use Rattle.machine.specs.inner.Slots.{slots_in}
use Rattle.machine.specs.inner.Remaining.{GoodWords}
use Rattle.automaton.specs.Machines.{Machine}
use Rattle.builder.specs.declared.rooms.Builder.{Builder}
use Rattle.builder.specs.declared.Met.{Met}
use Rattle.builder.specs.inner.Memory.{slot_at}
use Rattle.builder.specs.inner.Promises.{Ready, Shows, Asking, Stored, StatePlaced, WayPlaced, Meeting}

abbrev pub filters : Builder → ℕ
filters b = filters_in b.words.now

abbrev pub machine : Builder → Machine
machine b = slots_in (filters b) b.ranks.now

pub record Same (b b' : Builder) : Type 0 where
  pub long : length b'.words.now ≡ length b.words.now
  pub slots : b'.slots ≡ b.slots
  pub ranks : b'.ranks.now ≡ b.ranks.now
  pub table : b'.table.ghost_name ≡ b.table.ghost_name
  pub scratch : b'.scratch.ghost_name ≡ b.scratch.ghost_name
  pub words : b'.words.ghost_name ≡ b.words.ghost_name

abbrev pub state_at : Builder → ℕ → List ℕ
state_at b at = slot_at (filters b) b.scratch.now at

-- The state w is made; nothing else changes.
pub record Made (b : Builder) (w : List ℕ) (b' : Builder) : Type 0 where
  pub same : Same b b'
  pub table : b'.table.now ≡ b.table.now
  pub scratch : b'.scratch.now ≡ b.scratch.now
  pub state : b'.words.now ≡ w

-- The slots used are searched for the state made last, whose record is f.
pub record Search (b : Builder) (used : ℕ) (f : Fresh) : Type 0 where
  pub within : used ≤ b.slots
  pub shows : (i : ℕ) → i < used → Shows (filters b) i b.table.now b.scratch.now b.words.now f

abbrev pub ReadyIn : Builder → ℕ → ℕ → Type 0
ReadyIn b at used = Ready (filters b) b.slots b.ranks.now at used b.table.now b.scratch.now

abbrev pub AskingIn : Builder → ℕ → Type 0
AskingIn b at = Asking (filters b) b.ranks.now (state_at b at)

abbrev pub GoodIn : Builder → ℕ → Type 0
GoodIn b at = GoodWords (filters b) b.ranks.now (state_at b at)

abbrev pub StoredIn : Builder → ℕ → Builder → Type 0
StoredIn b used b' = Stored (filters b) b.slots b.ranks.now used b.table.now b.scratch.now b.words.now b'.table.now b'.scratch.now

abbrev pub MeetingIn : Builder → Outcome → ℕ → ℕ → Option Met → Builder → Type 0
MeetingIn b o at used m b' =
    Meeting (filters b) b.slots b.ranks.now used b.table.now b.scratch.now (step_words (filters b) b.ranks.now o (state_at b at)) m b'.table.now b'.scratch.now

abbrev pub StatePlacedIn : Builder → ℕ → ℕ → Option ℕ → Builder → Type 0
StatePlacedIn b at used r b' = StatePlaced (filters b) b.slots b.ranks.now at used b.table.now b.scratch.now r b'.table.now b'.scratch.now

abbrev pub WayPlacedIn : Builder → Outcome → ℕ → ℕ → Option ℕ → Builder → Type 0
WayPlacedIn b o at used r b' = WayPlaced (filters b) b.slots b.ranks.now o at used b.table.now b.scratch.now r b'.table.now b'.scratch.now
