-- Runs of words in lent memory.
--   cleared n ws    the first n words made 0
use Rattle.std.specs.Prelude.{ℕ, List, ◌++◌, drop, replicate}

unfoldable pub cleared : ℕ → List ℕ → List ℕ
cleared n ws = replicate n 0 ++ drop n ws
