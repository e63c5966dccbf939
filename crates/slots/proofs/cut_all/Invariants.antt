-- `slots::cut_all` meets its contract. The loop's invariant: what is written, then what the rest is cut to, is the whole.
-- Assumes nothing.
use Rattle.slots.specs.inner.Slots.{cut_words}
use Rattle.slots.specs.Asking.{filters_in}
use Rattle.slots.specs.Words.{filter_slot}
use lib.ListN.{take, drop}
use mathlib.Core.List.{◌++◌}
use mathlib.Core.Path.{◌≡◌}
use Prim.Native.Nat.{◌*◌, ◌-◌}
use Rattle.slots.proofs.cut_all.Given as goal

abbrev pub invariant-loop-i : goal.invariant-loop-i
invariant-loop-i l = take (filter_slot * l.i) l.dst ++ cut_words (filters_in l.src - l.i) l.field l.fact (drop (filter_slot * l.i) l.src) ≡ cut_words (filters_in l.src) l.field l.fact l.src
