-- What one step of a replay does with the bytes at hand.
--   gone        so many bytes are taken
--   opened s    where the reading stands behind a whole file header
--   Took        some bytes are taken, and what the bytes come to stays the same
--   Skipped     so it is, where a record is skipped that was counted
--   Waited      none is taken: they all wait, and the tallies stay
--   Went        the one or the other
--   fitted l n  what checking a list comes to, where there are n tallies
use Rattle.std.specs.Prelude.{ℕ, ◌≤◌, ◌<◌, ◌≡◌, cond, List, length, drop, eqb, Option, None, Some, Ok, Err}
use Rattle.lists.specs.Filters.{Filter}
use Rattle.refusals.specs.Numbers.{unplaced}
use Rattle.refusals.specs.declared.Refusal.TheVariants.{Capture, Tallies}
use Rattle.lists.specs.Refusals.{Listed, listed}
use Rattle.captures.specs.Replay.{tally_room, numbered}
use Rattle.captures.specs.Files.{order_of, linked}
use Rattle.captures.specs.Parts.{amid, paused, ran}
use Rattle.captures.specs.declared.Reading.{Reading}
use Rattle.captures.specs.declared.Stand.{Stand}
use Rattle.captures.specs.declared.Stand.TheVariants.{Within, Refusing}
use Rattle.captures.specs.declared.Gone.{Gone}

abbrev pub gone : ℕ → Stand → Gone
gone n st = record { taken = n; stand = st }

unfoldable pub opened : List ℕ → Stand
opened s = cond (linked s) (amid (order_of s) 0 0) (Refusing (numbered (unplaced Capture)))

pub record Took (fs : List Filter) (st : Stand) (ts s : List ℕ) (g : Gone) (ts' : List ℕ) : Type 0 where
  pub some : 0 < g.taken
  pub within : g.taken ≤ length s
  pub keeps : ran fs st ts s ≡ ran fs g.stand ts' (drop g.taken s)

-- Of what is left of a record, as many bytes as there are.
abbrev pub Skipped : Reading → List ℕ → Gone → Type 0
Skipped w s g = (fs : List Filter) (ts : List ℕ) → Took fs (Within w) ts s g ts

pub record Waited (fs : List Filter) (st : Stand) (ts s ts' : List ℕ) : Type 0 where
  pub counts : ts' ≡ ts
  pub rests : ran fs st ts s ≡ paused st ts s

abbrev pub Went : List Filter → Stand → List ℕ → List ℕ → Option Gone → List ℕ → Type 0
Went fs st ts s None ts' = Waited fs st ts s ts'
Went fs st ts s (Some g) ts' = Took fs st ts s g ts'

abbrev pub fitted_by : Listed → ℕ → Listed
fitted_by (Err r) n = Err r
fitted_by (Ok c) n = cond (eqb n (tally_room c.filters)) (Ok c) (Err (unplaced Tallies))

unfoldable pub fitted : List ℕ → ℕ → Listed
fitted l n = fitted_by (listed l) n
