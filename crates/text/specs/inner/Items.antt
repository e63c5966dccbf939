-- How many items a text can have.
--   max_items   so many fit in the longest text, with a separator between each two
use Rattle.std.specs.Prelude.{ℕ}

abbrev pub max_items : ℕ
max_items = 8192
