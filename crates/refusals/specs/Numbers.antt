-- Document 01, "Refusal numbers": the number that each refusal has, the refusals that name no filter, and the text of a refusal.
--   number_of r      the refusal's number
--   refused r i      the refusal r at the place i, a filter's or a record's number
--   unplaced r       the refusal r, with 0 for its place
--   shown text r     the text of the refusal r: `refused`, its number and its place, apart by spaces, where text knows the place's own
use Rattle.std.specs.Prelude.{ℕ, List, ◌++◌, Option, Some, codes, decimal}
use Rattle.std.specs.Fmt.{◌++?◌}
use Rattle.refusals.specs.declared.Refusal.{Refusal}
use Rattle.refusals.specs.declared.Refusal.TheVariants.{ManyFilters, CutFilter, Rank, ManyTests, Kind, Field, Mask, Width, Value, ScratchRoom, TableRoom, LongFrame, Table, Text, FullTally, Verdicts, Capture, CutRecord, Tallies}
use Rattle.refusals.specs.declared.Refused.{Refused}

unfoldable pub number_of : Refusal → ℕ
number_of ManyFilters = 1
number_of CutFilter = 2
number_of Rank = 3
number_of ManyTests = 4
number_of Kind = 5
number_of Field = 6
number_of Mask = 7
number_of Width = 8
number_of Value = 9
number_of ScratchRoom = 10
number_of TableRoom = 11
number_of LongFrame = 12
number_of Table = 13
number_of Text = 14
number_of FullTally = 15
number_of Verdicts = 16
number_of Capture = 17
number_of CutRecord = 18
number_of Tallies = 24

abbrev pub refused : Refusal → ℕ → Refused ℕ
refused r i = record { refusal = r; place = i }

abbrev pub unplaced : Refusal → Refused ℕ
unplaced r = refused r 0

abbrev pub shown : {N : Type 0} → (N → Option (List ℕ)) → Refused N → Option (List ℕ)
shown text r = Some (codes "refused " ++ decimal (number_of r.refusal) ++ codes " ") ++? text r.place
