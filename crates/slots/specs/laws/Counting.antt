-- The words of n filters are a state's.
--   filters_count, whole_state   of how many filters they are; they are whole filters, few enough
use Rattle.std.specs.Prelude.{ℕ, ◌*◌, ◌≤◌, ◌≡◌, List, length}
use Rattle.std.proofs.Common.{arith}
use Rattle.lists.specs.Filters.{max_filters}
use Rattle.slots.specs.Words.{filter_slot}
use Rattle.slots.specs.inner.Steps.{StateWords}
use Rattle.slots.specs.Asking.{filters_in}

pub filters_count : (n : ℕ) (w : List ℕ) → length w ≡ filter_slot * n → filters_in w ≡ n
filters_count n w l = omega arith

pub whole_state : (n : ℕ) (w : List ℕ) → n ≤ max_filters → length w ≡ filter_slot * n → StateWords w
whole_state n w few l = record { few = omega arith; whole = omega arith }
