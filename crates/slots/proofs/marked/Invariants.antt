-- `slots::marked` meets its contract. The loop's invariant: the set holds those of the filters below i.
-- Assumes nothing.
use Rattle.slots.specs.inner.Steps.{marked_set}
use mathlib.Core.Path.{◌≡◌}
use Rattle.slots.proofs.marked.Given as goal

abbrev pub invariant-loop-i : goal.invariant-loop-i
invariant-loop-i l = l.set ≡ marked_set l.i l.mark l.state
