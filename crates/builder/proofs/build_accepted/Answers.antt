-- Each end of placing is a law of specs/laws/Finished.
-- Assumes nothing.
use native.Mathlib.Omega.{arith}
use Rattle.tables.specs.Tables.{slots_of}
use Rattle.builder.specs.laws.Building.{answered_short}
use Rattle.builder.specs.laws.Finished as F
use Rattle.builder.proofs.build_accepted.Goals as goal

pub returns-then-scratch-slots : goal.returns-then-scratch-slots
unfolding slots_of
returns-then-scratch-slots c = rw c.into.ensures (answered_short c.args.list.now c.args.table.now c.args.scratch.now (rw c.slots_of-slots.ensures at c.if-scratch-slots.true))

pub place_start-placed-requires : goal.place_start-placed-requires
unfolding slots_of
place_start-placed-requires c = F.startable c.slots_of-slots.ensures c.if-scratch-slots.false c.rank_sets.ensures c.requires

pub overflow_cast-result : goal.overflow_cast-result
unfolding slots_of
overflow_cast-result c = omega (arith, F.few_states c.slots_of-slots.ensures c.if-scratch-slots.false c.in-Some.ensures)

pub returns : goal.returns
unfolding slots_of
returns c = rw c.clear.ensures (F.finished c.slots_of-slots.ensures c.if-scratch-slots.false c.in-Some.ensures c.place_start-placed.auto.table)

pub returns-in_default : goal.returns-in_default
unfolding slots_of
returns-in_default c = rw (c.into-in_default.ensures, c.clear.ensures, c.clear-in_default.ensures) (F.finished_slotless c.slots_of-slots.ensures c.if-scratch-slots.false c.in_default.ensures)
