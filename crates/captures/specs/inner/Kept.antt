-- What stays of a list and its tallies where records are counted.
--   Kept       the list, and which tallies they are
use Rattle.std.specs.Prelude.{◌≡◌}
use Rattle.captures.specs.declared.Counting.{Counting}

pub record Kept (before after : Counting) : Type 0 where
  pub list : after.list.now ≡ before.list.now
  pub tallies : after.counts.ghost_name ≡ before.counts.ghost_name
