-- States all of whose remaining tests are well formed.
--   every_item p ts, every_standing p x, every_state p s   each test that remains there passes p
--   well_state s    each test that remains in the state s is well formed
use Rattle.std.specs.Prelude.{Bool, true, ◌&&◌, List, [], ◌∷◌}
use Rattle.lists.specs.Filters.{Item}
use Rattle.lists.specs.inner.Well.{well_item}
use Rattle.states.specs.States.{Standing, out, left, State}

unfoldable pub every_item : (Item → Bool) → List Item → Bool
every_item p [] = true
every_item p (t ∷ ts) = p t && every_item p ts

unfoldable pub every_standing : (Item → Bool) → Standing → Bool
every_standing p out = true
every_standing p (left ts) = every_item p ts

unfoldable pub every_state : (Item → Bool) → State → Bool
every_state p [] = true
every_state p (x ∷ s) = every_standing p x && every_state p s

abbrev pub well_state : State → Bool
well_state s = every_state well_item s
