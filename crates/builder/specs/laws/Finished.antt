-- Building an accepted list: the sizes, and what each end of placing leaves once the scratch has been cleared.
-- Assumes nothing.
use Rattle.std.specs.Prelude.{ℕ, ◌*◌, ◌≤◌, ◌<◌, ◌≡◌, List, length, Some, None, Ok, Err}
use Rattle.std.proofs.Common.{arith}
use Rattle.lists.specs.Filters.{Filter, filters_of}
use Rattle.lists.specs.Refusals.{listed, counts}
use Rattle.lists.specs.Ranks.{rank_sets}
use Rattle.words.specs.Lent.{cleared}
use Rattle.tables.specs.Tables.{record_words, max_slots, slots_of}
use Rattle.slots.specs.Words.{slot_words}
use Rattle.builder.specs.Outcome.{by_room, Answered}
use Rattle.builder.specs.laws.Building.{built_states, built_slotless, answered_short}
use Rattle.builder.specs.inner.Started.{Startable, Started}
use Rattle.refusals.specs.declared.Refusal.TheVariants.{ScratchRoom, TableRoom}
use Rattle.refusals.specs.Numbers.{unplaced}

pub slots_tabled : (t : List ℕ) → record_words * slots_of t ≤ length t
unfolding slots_of
slots_tabled t = omega arith

pub slots_few : (t : List ℕ) → slots_of t ≤ max_slots
unfolding slots_of
slots_few t = omega arith

-- Too small a scratch changes no word.
pub short : (l : List ℕ) {t s : List ℕ} {slots : ℕ} → slots ≡ slots_of t → length s < slot_words * slots → Answered (by_room (filters_of l) t s) (Err (unplaced ScratchRoom)) t s
short l {t} {s} count h = answered_short l t s (rw count at h)

module _ {t s : List ℕ} {slots : ℕ} (count : slots ≡ slots_of t) (asked : slot_words * slots ≤ length s) where
  pub startable : {l ranks : List ℕ} {n : ℕ} → ranks ≡ rank_sets (filters_of l) → (k : ℕ) × (listed l ≡ Ok (counts n k)) → Startable n slots ranks l t s
  startable ranked accepts =
      record {
        ranked = ranked;
        listing = accepts;
        few = rw count (slots_few t);
        tabled = rw count (slots_tabled t);
        scratched = asked;
      }

  module _ {n : ℕ} {ranks t' s' : List ℕ} {fs : List Filter} where
    pub finished : {u : ℕ} → Started n slots ranks fs t s (Some u) t' s' → length t' ≡ length t → Answered (by_room fs t s) (Ok u) t' (cleared (slot_words * slots) s')
    finished came long = rw count (built_states (rw count at came) (rw count at asked) (rw long (slots_tabled t)))

    pub finished_slotless : Started n slots ranks fs t s None t' s' → Answered (by_room fs t s) (Err (unplaced TableRoom)) (cleared (record_words * slots) t') (cleared (slot_words * slots) s')
    finished_slotless came = rw count (built_slotless (rw count at came) (rw count at asked))

    -- The number of states fits a word.
    pub few_states : {u : ℕ} → Started n slots ranks fs t s (Some u) t' s' → u ≤ max_slots
    few_states came =
        let within = came.grows.1 in
        let few = slots_few t in
        omega arith
