-- No refusal has the number 0, which stands where nothing is refused.
-- Assumes nothing.
use Rattle.std.specs.Prelude.{◌<◌}
use Rattle.std.proofs.Common.{arith}
use Rattle.refusals.specs.Numbers.{number_of}
use Rattle.refusals.specs.declared.Refusal.{Refusal}
use Rattle.refusals.specs.declared.Refusal.TheVariants.{ManyFilters, CutFilter, Rank, ManyTests, Kind, Field, Mask, Width, Value, ScratchRoom, TableRoom, LongFrame, Table, Text, FullTally, Verdicts, Capture, CutRecord, Tallies}

pub number_above : (r : Refusal) → 0 < number_of r
unfolding number_of
number_above ManyFilters = omega arith
number_above CutFilter = omega arith
number_above Rank = omega arith
number_above ManyTests = omega arith
number_above Kind = omega arith
number_above Field = omega arith
number_above Mask = omega arith
number_above Width = omega arith
number_above Value = omega arith
number_above ScratchRoom = omega arith
number_above TableRoom = omega arith
number_above LongFrame = omega arith
number_above Table = omega arith
number_above Text = omega arith
number_above FullTally = omega arith
number_above Verdicts = omega arith
number_above Capture = omega arith
number_above CutRecord = omega arith
number_above Tallies = omega arith
