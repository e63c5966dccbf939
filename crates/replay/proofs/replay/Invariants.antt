-- The parts that were met lead to where the replay stands, and to the tallies and the bytes held.
use Rattle.std.proofs.Common.{length, ◌≡◌, ◌≤◌, take, List, [], ℕ}
use Rattle.captures.specs.Parts.{paused, fed}
use Rattle.captures.specs.declared.Stand.TheVariants.{Start}
use Rattle.replay.proofs.replay.Given as goal

abbrev pub invariant-loop : goal.invariant-loop
invariant-loop g l =
    (l.pause.held ≤ length l.buffer) ×
    ((met : List (List ℕ)) × (fed l.list (paused Start l.fn.counts []) met ≡ paused l.pause.stand l.counts (take l.pause.held l.buffer)))
