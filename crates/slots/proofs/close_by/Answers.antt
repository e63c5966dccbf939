-- `slots::close_by` meets its contract: the words up to filter i, then the rest closed, are the whole.
-- Assumes nothing.
use Rattle.std.proofs.Common.{◌*◌, arith, drop}
use Rattle.slots.specs.Words.{filter_slot}
use Rattle.slots.specs.Asking.{filters_in}
use Rattle.slots.proofs.Parts.{close_out, close_stays, closed_none, done}
use Rattle.slots.proofs.close_by.Goals as goal
use Rattle.slots.proofs.close_by.Goals.{then-ranks-i-ne0, else-ranks-i-ne0}

pub loop-i-preserved : goal.loop-i-preserved
loop-i-preserved c =
    let n = filters_in c.args.state.now in
    elim c.if-ranks-i-ne0.branch [
      | then-ranks-i-ne0 w ↦ rw w.state-is (close_out n c.loop-i.i c.args.ranks.now c.args.held c.loop-i.state _ (omega arith) (omega arith) c.loop-i.invariant w.set_out.new.dst w.if-ranks-i-ne0.true (omega arith) w.set_out.ensures)
      | else-ranks-i-ne0 w ↦ rw w.state-is (close_stays n c.loop-i.i c.args.ranks.now c.args.held c.loop-i.state _ (omega arith) (omega arith) c.loop-i.invariant w.if-ranks-i-ne0.false)
    ]

pub returns : goal.returns
returns c =
    done (filters_in c.args.state.now) c.loop-i.i c.loop-i.state _ _ (omega arith) (omega arith)
    (closed_none (filters_in c.args.state.now) c.loop-i.i c.args.ranks.now c.args.held (drop (filter_slot * c.loop-i.i) c.loop-i.state) (omega arith)) c.loop-i.invariant
