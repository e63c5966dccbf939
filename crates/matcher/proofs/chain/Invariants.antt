-- `matcher::chain` meets its contract. The loop's invariant: the walk from the first place goes on from the place reached, and what may
-- still be taken of the questions leads to no record beyond the states. What is left of them falls by one for each link.
-- Assumes nothing.
use Prim.Native.Nat.{◌+◌, ◌-◌, ◌*◌, ◌<◌}
use Rattle.matcher.specs.inner.Chains.{Chained}
use Rattle.matcher.proofs.chain.Given as goal

abbrev pub invariant-loop-place : goal.invariant-loop-place
invariant-loop-place l =
    Chained l.table.words.now l.table.states l.read.field l.read.x l.fn.from.left l.fn.from.s l.place.left l.place.s × (l.place.s + 2 * (l.place.left - l.stop) < l.table.states)

abbrev pub decreases-loop-place : goal.decreases-loop-place
decreases-loop-place l = l.place.left
