-- `slots::same` meets its contract. The loop's invariant: the words behind its end are the same, and those before it decide.
-- Assumes nothing.
use Rattle.std.proofs.Common.{◌≤◌, length}
use Rattle.slots.proofs.Sameness.{Passed}
use Rattle.slots.proofs.same.Given as goal

abbrev pub invariant-loop-end : goal.invariant-loop-end
invariant-loop-end l = (l.end ≤ length l.a) × Passed l.a l.b l.end

abbrev pub decreases-loop-end : goal.decreases-loop-end
decreases-loop-end l = l.end
