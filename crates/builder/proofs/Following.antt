-- What was said of a builder is said of the one that a function leaves, which has the same sizes and ranks.
-- Assumes nothing.
use Rattle.std.specs.Prelude.{ℕ, ◌+◌, ◌*◌, ◌/◌, ◌≤◌, ◌<◌, ◌≡◌, List}
use Rattle.std.proofs.Common.{ap, ◌∙◌}
use Rattle.slots.specs.Words.{filter_slot}
use Rattle.machine.specs.inner.Remaining.{tests_left}
use Rattle.automaton.specs.inner.Placing.{Told}
use Rattle.builder.specs.declared.rooms.Builder.{Builder}
use Rattle.builder.specs.inner.Memory.{slot_at, memory_of}
use Rattle.builder.specs.inner.Promises.{Stored}
use Rattle.builder.specs.inner.Builders.{filters, machine, Same, Made, state_at, ReadyIn, AskingIn, StoredIn}
use Rattle.builder.specs.laws.WaysPlaced.{way_less}

pub same_filters : {b b' : Builder} → Same b b' → filters b' ≡ filters b
same_filters same = ap (λ (k : ℕ). k / filter_slot) same.long

pub same_on : {a b c : Builder} → Same a b → Same b c → Same a c
same_on p q =
    record {
      long = q.long ∙ p.long;
      slots = q.slots ∙ p.slots;
      ranks = q.ranks ∙ p.ranks;
      table = q.table ∙ p.table;
      scratch = q.scratch ∙ p.scratch;
      words = q.words ∙ p.words;
    }

module _ {b b' : Builder} (same : Same b b') where
  pub ready_on : {at u : ℕ} → at < u → u ≤ b.slots → Told (machine b) (memory_of (filters b) b.ranks.now u b'.table.now b'.scratch.now) → ReadyIn b' at u
  ready_on inside within told = record { inside = inside; within = rw same.slots within; told = rw (same_filters same, same.ranks) told }

  -- A later way finds the words of its state as they were: they still ask, and the way's measure is below the state's.
  module _ (at : ℕ) (kept : slot_at (filters b) b'.scratch.now at ≡ slot_at (filters b) b.scratch.now at) where
    pub asking_on : AskingIn b at → AskingIn b' at
    asking_on a = rw (same_filters same, same.ranks, kept) a

    pub falls_on : 2 * tests_left (filters b') (state_at b' at) < 2 * tests_left (filters b) (state_at b at) + 1
    falls_on = rw (same_filters same) (way_less (filters b) kept)

-- A state that was made after b, which left b₁, and then stored, which left b₂.
pub stored_on : {b b₁ : Builder} {w : List ℕ} → Made b w b₁ → (used : ℕ) (b₂ : Builder) → StoredIn b₁ used b₂
    → Stored (filters b) b.slots b.ranks.now used b.table.now b.scratch.now w b₂.table.now b₂.scratch.now
stored_on made used b₂ stored = rw (same_filters made.same, made.state, made.same.slots, made.same.ranks, made.table, made.scratch) at stored
