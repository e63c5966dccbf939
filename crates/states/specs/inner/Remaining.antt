-- How many tests remain: what falls with each question.
--   remaining_in x   of one filter
--   remaining s     of all filters of the state s
use Rattle.std.specs.Prelude.{ℕ, ◌+◌, [], ◌∷◌, length}
use Rattle.states.specs.States.{Standing, left, out, State}

unfoldable pub remaining_in : Standing → ℕ
remaining_in out = 0
remaining_in (left ts) = length ts

unfoldable pub remaining : State → ℕ
remaining [] = 0
remaining (x ∷ s) = remaining_in x + remaining s
