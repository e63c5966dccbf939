-- Change request P1: what scanning a list and a frame answers.
--   scanned l f p    what scanning the frame f, which came in at box port p, by the list l comes to
use Rattle.std.specs.Prelude.{ℕ, cond, List, ltb, length, Result, Ok, Err}
use Rattle.refusals.specs.declared.Refusal.TheVariants.{LongFrame}
use Rattle.refusals.specs.declared.Refused.{Refused}
use Rattle.refusals.specs.Numbers.{unplaced}
use Rattle.fields.specs.Ethernet.{max_frame}
use Rattle.fields.specs.Fields.{field}
use Rattle.lists.specs.Filters.{filters_of}
use Rattle.lists.specs.Ranks.{match_set}
use Rattle.lists.specs.Refusals.{Listed, listed}

-- The list's refusals, then 12, which names no filter; else the match set.
unfoldable pub scanned_by : Listed → List ℕ → List ℕ → ℕ → Result ℕ (Refused ℕ)
scanned_by (Err e) l f p = Err e
scanned_by (Ok c) l f p = cond (ltb max_frame (length f)) (Err (unplaced LongFrame)) (Ok (match_set (filters_of l) (field f p)))

unfoldable pub scanned : List ℕ → List ℕ → ℕ → Result ℕ (Refused ℕ)
scanned l f p = scanned_by (listed l) l f p
