-- `slots::cut_all` meets its contract: what is written, then what the rest is cut to, is the whole.
-- Assumes nothing.
use Rattle.std.proofs.Common.{◌*◌, arith, drop}
use Rattle.slots.specs.Words.{filter_slot}
use Rattle.slots.specs.Asking.{filters_in}
use Rattle.slots.proofs.Parts.{cut_turn, cut_none, done}
use Rattle.slots.proofs.cut_all.Goals as goal

pub loop-i-preserved : goal.loop-i-preserved
loop-i-preserved c =
    cut_turn (filters_in c.args.src.now) c.loop-i.i c.args.field c.args.fact c.args.src.now c.filters-filter-items.result.now c.loop-i.dst c.cut_filter.new.dst _
    (omega arith) c.filters-filter-items.ensures.words (omega arith) (omega arith) c.cut_filter.ensures c.loop-i.invariant

pub returns : goal.returns
returns c =
    done (filters_in c.args.src.now) c.loop-i.i c.loop-i.dst _ _ (omega arith) (omega arith)
    (cut_none (filters_in c.args.src.now) c.loop-i.i c.args.field c.args.fact (drop (filter_slot * c.loop-i.i) c.args.src.now) (omega arith)) c.loop-i.invariant
