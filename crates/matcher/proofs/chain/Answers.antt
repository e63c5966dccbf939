-- `matcher::chain` meets its contract. The loop's invariant: the walk from the first place goes on from the place reached, and what may
-- still be taken of the questions leads to no record beyond the states. What is left of them falls by one for each link.
-- Assumes nothing.
use Rattle.std.proofs.Common.{sym}
use Rattle.matcher.proofs.Linked.{chained_more}
use Rattle.matcher.proofs.chain.Goals as goal

pub loop-place-preserved : goal.loop-place-preserved
loop-place-preserved c =
    chained_more _ c.args.read.is_field c.loop-place.invariant.0 c.loop-place.invariant.1 c.loop-place-test.true
    (rw c.record.ensures at (sym c.if-links.ensures))
