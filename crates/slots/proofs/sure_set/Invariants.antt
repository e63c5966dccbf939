-- `slots::sure_set` meets its contract. The loop's invariant: the set holds those of the filters below i.
-- Assumes nothing.
use Rattle.slots.proofs.Sets.{sure_among}
use mathlib.Core.Path.{◌≡◌}
use Rattle.slots.proofs.sure_set.Given as goal

abbrev pub invariant-loop-i : goal.invariant-loop-i
invariant-loop-i l = l.set ≡ sure_among l.i l.ranks l.out l.state
