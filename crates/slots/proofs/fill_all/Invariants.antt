-- `slots::fill_all` meets its contract. The loop's invariant: the filters that are written, then those that are left of the list, are all of them.
-- Assumes nothing.
use Rattle.slots.specs.Words.{filter_slot}
use Rattle.slots.specs.inner.Words.{written}
use Rattle.slots.specs.Asking.{filters_in}
use Rattle.states.specs.States.{all_left}
use Rattle.lists.specs.Filters.{filters_of}
use Rattle.lists.specs.Walk.{left_in}
use Rattle.lists.specs.laws.Walking.{Rest}
use Rattle.std.specs.Iterator.Adapters.{enumerate_source, enumerate_count}
use lib.ListN.{take, drop}
use mathlib.Core.List.{◌++◌, map}
use mathlib.Core.Path.{◌≡◌}
use Prim.Native.Nat.{◌*◌}
use Rattle.slots.proofs.fill_all.Given as goal

abbrev pub invariant-loop-i : goal.invariant-loop-i
invariant-loop-i l = record {
  rest : Rest l.list (filters_in l.initial.dst) (enumerate_count l.i-iterator) (left_in (enumerate_source l.i-iterator));
  whole : take (filter_slot * enumerate_count l.i-iterator) l.dst ++ written (map all_left (drop (enumerate_count l.i-iterator) (filters_of l.list))) ≡ written (map all_left (filters_of l.list));
}
