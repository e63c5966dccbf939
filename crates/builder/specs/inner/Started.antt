-- What building starts from, and what placing the start and all that follows from it leaves.
--   Startable n slots ranks l t s   an accepted list, its rank sets and rooms of the sizes asked
--   Started n slots ranks fs t s r t' s'   the words t' and s' that placing the states of fs leaves, with r slots used
use Rattle.std.specs.Prelude.{ℕ, ◌*◌, ◌≤◌, ◌≡◌, List, length, drop, Option, Ok}
use Rattle.lists.specs.Filters.{Filter, filters_of}
use Rattle.lists.specs.Ranks.{rank_sets}
use Rattle.lists.specs.Refusals.{listed, counts}
use Rattle.tables.specs.Tables.{record_words, max_slots}
use Rattle.slots.specs.Words.{slot_words}
use Rattle.machine.specs.inner.Placed.{whole}
use Rattle.builder.specs.inner.Memory.{out_of}
use Rattle.builder.specs.inner.Promises.{Grown, AfterKept}

-- An accepted list, its rank sets and rooms of the sizes asked.
pub record Startable (n slots : ℕ) (ranks l t s : List ℕ) : Type 0 where
  pub ranked : ranks ≡ rank_sets (filters_of l)
  pub listing : (k : ℕ) × (listed l ≡ Ok (counts n k))
  pub few : slots ≤ max_slots
  pub tabled : record_words * slots ≤ length t
  pub scratched : slot_words * slots ≤ length s

-- The words left by the start of the list fs and all that follows from it.
pub record Started (n slots : ℕ) (ranks : List ℕ) (fs : List Filter) (t s : List ℕ) (r : Option ℕ) (t' s' : List ℕ) : Type 0 where
  pub comes : out_of n ranks r t' s' ≡ whole n ranks fs slots
  pub grows : Grown 0 slots r
  pub after : AfterKept r t t'
  pub behind : drop (record_words * slots) t' ≡ drop (record_words * slots) t
  pub beyond : drop (slot_words * slots) s' ≡ drop (slot_words * slots) s
