-- What the promise says in each case.
--   scanned_refused    a list's refusal is named with its filter
--   scanned_long       else a frame of more than 1,522 bytes is refused with 12
--   scanned_set        else the answer is the match set
use Rattle.std.specs.Prelude.{ℕ, ◌≤◌, ◌<◌, ◌≡◌, List, length, Ok, Err}
use Rattle.std.proofs.Common.{lt-ltb, le-ltb}
use Rattle.refusals.specs.declared.Refusal.TheVariants.{LongFrame}
use Rattle.refusals.specs.declared.Refused.{Refused}
use Rattle.refusals.specs.Numbers.{unplaced}
use Rattle.fields.specs.Ethernet.{max_frame}
use Rattle.fields.specs.Fields.{field}
use Rattle.lists.specs.declared.Counts.{Counts}
use Rattle.lists.specs.Filters.{filters_of}
use Rattle.lists.specs.Ranks.{match_set}
use Rattle.lists.specs.Refusals.{listed}
use Rattle.scanner.specs.Scan.{scanned_by, scanned}

module _ (l f : List ℕ) (p : ℕ) where
  pub scanned_refused : (e : Refused ℕ) → listed l ≡ Err e → scanned l f p ≡ Err e
  unfolding scanned scanned_by
  scanned_refused e h = rw h

  pub scanned_long : (c : Counts) → listed l ≡ Ok c → max_frame < length f → scanned l f p ≡ Err (unplaced LongFrame)
  unfolding scanned scanned_by
  scanned_long c e h = rw (e, lt-ltb max_frame (length f) h)

  pub scanned_set : (c : Counts) → listed l ≡ Ok c → length f ≤ max_frame → scanned l f p ≡ Ok (match_set (filters_of l) (field f p))
  unfolding scanned scanned_by
  scanned_set c e h = rw (e, le-ltb max_frame (length f) h)
