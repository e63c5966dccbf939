-- `slots::same` meets its contract: parts that differ settle it, and so does the front's end.
-- Assumes nothing.
use Rattle.std.proofs.Common.{arith, ◌≡◌, sym, ◌∙◌}
use Rattle.slots.proofs.Sameness.{same_pointwise, passed_none, passed_all, passed_differ, passed_more}
use Rattle.slots.proofs.same.Goals as goal

pub loop-end-init : goal.loop-end-init
loop-end-init c = (omega arith, passed_none c.args.a.now c.args.b.now c.requires)

pub returns-then-not-is_same : goal.returns-then-not-is_same
returns-then-not-is_same c =
    sym (passed_differ c.args.a.now c.args.b.now c.requires c.saturating_sub-at.result c.loop-end.end (omega (arith, c.saturating_sub-at.ensures)) c.loop-end.invariant.0 c.loop-end.invariant.1
    (same_pointwise _ _ ∙ sym c.eq-is_same.ensures ∙ c.if-not-is_same.true))

pub loop-end-preserved : goal.loop-end-preserved
loop-end-preserved c = (
  omega (arith, c.saturating_sub-at.ensures, c.loop-end.invariant.0),
  passed_more c.args.a.now c.args.b.now c.requires c.saturating_sub-at.result c.loop-end.end (omega (arith, c.saturating_sub-at.ensures)) c.loop-end.invariant.0 c.loop-end.invariant.1
      (same_pointwise _ _ ∙ sym c.eq-is_same.ensures ∙ c.if-not-is_same.false),
)

pub returns : goal.returns
returns c =
    let front : c.loop-end.end ≡ 0 = omega (arith, c.loop-end-test.false) in
    sym (passed_all c.args.a.now c.args.b.now c.requires (rw front at c.loop-end.invariant.1))
