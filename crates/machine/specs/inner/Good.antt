-- The states of a list that its machine meets.
--   Good fs s   a state of the list fs: a standing for each filter, every remaining test well formed, and it fits a slot
use Rattle.std.specs.Prelude.{◌≡◌, true, List, length}
use Rattle.lists.specs.Filters.{Filter}
use Rattle.states.specs.States.{State}
use Rattle.states.specs.inner.Well.{well_state}
use Rattle.slots.specs.laws.Fitting.{fits_slot}

pub record Good (fs : List Filter) (s : State) : Type 0 where
  pub well : well_state s ≡ true
  pub each : length s ≡ length fs
  pub fits : fits_slot s ≡ true
