-- `slots::close_by` meets its contract. The loop's invariant: the words up to filter i, then the rest closed, are the whole.
-- Assumes nothing.
use Rattle.slots.specs.inner.Slots.{closed_in}
use Rattle.slots.specs.Asking.{filters_in}
use Rattle.slots.specs.Words.{filter_slot}
use lib.ListN.{take, drop}
use mathlib.Core.List.{◌++◌}
use mathlib.Core.Path.{◌≡◌}
use Prim.Native.Nat.{◌*◌, ◌-◌}
use Rattle.slots.proofs.close_by.Given as goal

abbrev pub invariant-loop-i : goal.invariant-loop-i
invariant-loop-i l = take (filter_slot * l.i) l.state ++ closed_in (filters_in l.initial.state - l.i) l.ranks l.held l.i (drop (filter_slot * l.i) l.state) ≡ closed_in (filters_in l.initial.state) l.ranks l.held 0 l.initial.state
