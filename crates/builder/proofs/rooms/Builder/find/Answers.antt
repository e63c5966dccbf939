-- None of the first states is the one sought, neither those compared nor those whose records do not agree.
-- Assumes nothing.
use Rattle.std.proofs.Common.{arith, sym, ◌∙◌, ◌≡◌, ◌*◌, length}
use Rattle.slots.specs.Words.{filter_slot}
use Rattle.builder.specs.inner.Builders.{filters, state_at}
use Rattle.builder.proofs.Finding.{unmet_none, unmet_more, unmet_next, unmet_all, found_at, found_nothing, slot_long}
use Rattle.builder.proofs.rooms.Builder.find.Goals as goal

pub loop-next-init : goal.loop-next-init
loop-next-init c = record { within = omega arith; unmet = unmet_none _ _ _ }

pub slot-requires : goal.slot-requires
slot-requires c = omega (arith, unmet_next c.requires c.loop-next.from _ c.loop-next.invariant.unmet (omega arith) c.in-Some.ensures)

pub same-is_same-requires : goal.same-is_same-requires
same-is_same-requires c =
    let b = c.args.self.now in
    let below = (unmet_next c.requires c.loop-next.from _ c.loop-next.invariant.unmet (omega arith) c.in-Some.ensures).1 in
    let long : length (state_at b c.in-Some.next) ≡ filter_slot * filters b = slot_long (filters b) b.scratch.now c.in-Some.next b.filters (omega (arith, b.scratched)) in
    rw c.slot.ensures (long ∙ sym b.whole)

pub overflow_add-from : goal.overflow_add-from
overflow_add-from c = omega (arith, unmet_next c.requires c.loop-next.from _ c.loop-next.invariant.unmet (omega arith) c.in-Some.ensures)

pub returns-then-is_same : goal.returns-then-is_same
returns-then-is_same c =
    let passed = unmet_next c.requires c.loop-next.from _ c.loop-next.invariant.unmet (omega arith) c.in-Some.ensures in
    found_at _ _ _ _ _ passed.1 passed.2 (sym c.if-is_same.true ∙ rw c.slot.ensures at c.same-is_same.ensures) _

pub loop-next-preserved : goal.loop-next-preserved
loop-next-preserved c =
    let passed = unmet_next c.requires c.loop-next.from _ c.loop-next.invariant.unmet (omega arith) c.in-Some.ensures in
    let below = passed.1 in
    record { within = omega arith; unmet = unmet_more _ _ _ _ passed.2 (sym c.if-is_same.false ∙ rw c.slot.ensures at c.same-is_same.ensures) }

pub loop-next-smaller : goal.loop-next-smaller
loop-next-smaller c = omega (arith, unmet_next c.requires c.loop-next.from _ c.loop-next.invariant.unmet (omega arith) c.in-Some.ensures)

pub returns : goal.returns
returns c = found_nothing _ _ _ _ (unmet_all c.requires c.loop-next.from _ c.loop-next.invariant.unmet (omega arith) c.in_default.ensures (omega arith)) _
