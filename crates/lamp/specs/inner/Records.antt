-- What the code does at a record, by the words of the question.
--   record_asks r q        the record r asks the question of the words q; where their kind is 0 it has kind 0
--   Lighting l s o         what the walk is lent: an accepted list, and the words of two states of its filters
use Rattle.std.specs.Prelude.{ℕ, ◌*◌, ◌≡◌, Bool, ◌&&◌, ◌||◌, List, eqb, length, get_or, Ok}
use Rattle.lists.specs.declared.TestWords.{TestWords}
use Rattle.lists.specs.Filters.{kind_at, field_at, mask_at, value_at}
use Rattle.lists.specs.Refusals.{listed, counts}
use Rattle.slots.specs.Words.{filter_slot}
use Rattle.slots.specs.Asking.{filters_in}

unfoldable pub record_asks : List ℕ → TestWords → Bool
record_asks r q =
    eqb (get_or r kind_at 0) q.kind &&
    (eqb q.kind 0 || (eqb (get_or r field_at 0) q.field && eqb (get_or r mask_at 0) q.mask && eqb (get_or r value_at 0) q.value))

pub record Lighting (l s o : List ℕ) : Type 0 where
  pub accepted : (k : ℕ) × (listed l ≡ Ok (counts (filters_in s) k))
  pub source : length s ≡ filter_slot * filters_in s
  pub target : length o ≡ length s
