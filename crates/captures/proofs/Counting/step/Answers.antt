-- `captures::Counting::step` meets its contract, by where the replay stands. Assumes nothing.
use Rattle.std.proofs.Common.{arith, sym, eqb-true}
use Rattle.std.proofs.lemmas.Bool.{eqb-false}
use Rattle.captures.proofs.Goings.{went_none, went_refused}
use Rattle.captures.proofs.Counting.step.Goals as goal

pub returns-then-is_empty-clause-went : goal.returns-then-is_empty-clause-went
returns-then-is_empty-clause-went c = went_none _ _ _ _ (eqb-true _ _ (sym c.if-is_empty.ensures))

pub returns-in-Within-2-clause-went : goal.returns-in-Within-2-clause-went
returns-in-Within-2-clause-went c = rw c.in-Within-2.is (c.skip.ensures _ _)

pub returns-in-Refusing-clause-went : goal.returns-in-Refusing-clause-went
returns-in-Refusing-clause-went c = went_refused _ _ _ _ _ c.in-Refusing.is (omega (arith, eqb-false _ _ (sym c.if-is_empty.ensures)))
