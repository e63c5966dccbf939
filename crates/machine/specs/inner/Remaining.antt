-- The tests that remain in a state, counted on the words of its slot.
--   GoodWords n ranks w   w has the words of a good state of a list of n filters with these rank sets
--   tests_left n w            how many tests remain in the state that the words of n filters say
use Rattle.std.specs.Prelude.{ℕ, ◌≤◌, List, length}
use Rattle.lists.specs.Filters.{Filter, max_filters}
use Rattle.lists.specs.Ranks.{rank_sets}
use Rattle.states.specs.States.{State}
use Rattle.states.specs.inner.Remaining.{remaining}
use Rattle.slots.specs.inner.Words.{written, read_state}
use Rattle.machine.specs.inner.Good.{Good}

unfoldable pub tests_left : ℕ → List ℕ → ℕ
tests_left n w = remaining (read_state n w)

pub data GoodWords : ℕ → List ℕ → List ℕ → Type 0 where
  good_words : {fs : List Filter} {s : State} → length fs ≤ max_filters → Good fs s → GoodWords (length fs) (rank_sets fs) (written s)
