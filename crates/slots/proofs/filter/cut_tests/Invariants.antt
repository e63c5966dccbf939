-- `slots::filter::cut_tests` meets its contract. The loop's invariant: what is kept, finished with what the rest leaves, is the whole.
-- Assumes nothing.
use Rattle.slots.proofs.Cutting.{ahead}
use Rattle.slots.specs.inner.Words.{written_filter, read_filter}
use Rattle.states.specs.States.{cut_standing}
use Rattle.lists.specs.Filters.{test_words}
use mathlib.Core.Path.{◌≡◌}
use Prim.Native.Nat.{◌≤◌, ◌*◌}
use Rattle.slots.proofs.filter.cut_tests.Given as goal

abbrev pub invariant-loop-test : goal.invariant-loop-test
invariant-loop-test l = record {
  within : l.end ≤ test_words * l.test-index;
  whole : ahead l.field l.fact l.src l.test-index l.end l.dst ≡ written_filter (cut_standing l.field l.fact (read_filter l.src));
}
