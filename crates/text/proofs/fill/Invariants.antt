-- The bytes held stay, since reads go behind them. The measure is the room left.
use Rattle.std.proofs.Common.{length, ◌-◌, ◌≡◌, ◌≤◌, take}
use Rattle.text.proofs.fill.Given as goal

abbrev pub invariant-loop-end : goal.invariant-loop-end
invariant-loop-end g l = (l.held ≤ l.end) × (l.end ≤ length l.room) × (take l.held l.room ≡ take l.held l.fn.room)

abbrev pub decreases-loop-end : goal.decreases-loop-end
decreases-loop-end g l = length l.initial.room - l.end
