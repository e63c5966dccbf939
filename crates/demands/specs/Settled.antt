-- A frame's walk over what was built.
--   walked l t s ..  the walk over what building the list l left in the table
use Rattle.std.specs.Prelude.{ℕ, List, Result}
use Rattle.refusals.specs.declared.Refusal.{Refusal}
use Rattle.matcher.specs.declared.Walk.{Walk}
use Rattle.matcher.specs.Walk.{walk}
use Rattle.builder.specs.Outcome.{number_of, outcome}

abbrev pub walked : List ℕ → List ℕ → List ℕ → List ℕ → ℕ → ℕ → Result Walk Refusal
walked l t s f p a = walk f p (outcome l t s).table (number_of (outcome l t s).answer) a
