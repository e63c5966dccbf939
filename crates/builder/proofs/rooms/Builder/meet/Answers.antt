-- The search's answer says which case it is.
-- Assumes nothing.
use Rattle.std.proofs.Common.{arith}
use Rattle.builder.proofs.Meeting.{search_asks, met_old, met_slotless, met_new}
use Rattle.builder.proofs.rooms.Builder.meet.Goals as goal

pub find-requires : goal.find-requires
find-requires c = search_asks c.args.self.now c.step.new.self c.args.o c.args.at c.args.used c.step.ensures c.requires _ c.fresh-fresh.ensures

pub returns-in-Some-clause-met : goal.returns-in-Some-clause-met
returns-in-Some-clause-met c = met_old c.args.self.now c.step.new.self c.args.o c.args.at c.args.used c.step.ensures c.requires _ c.in-Some.ensures

pub returns-then-all_used-clause-met : goal.returns-then-all_used-clause-met
returns-then-all_used-clause-met c =
    met_slotless c.args.self.now c.step.new.self c.args.o c.args.at c.args.used c.step.ensures c.requires c.in_default.ensures (omega arith)

pub returns-clause-met : goal.returns-clause-met
returns-clause-met c =
    met_new c.args.self.now c.step.new.self c.args.o c.args.at c.args.used c.step.ensures c.requires c.in_default.ensures c.store.new.self (omega arith)
    (c.store.ensures.stored c.fresh-fresh.ensures)
