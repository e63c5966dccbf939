-- The tests left have the whole run's first fault.
use Rattle.std.proofs.Common.{◌-◌, ◌*◌, ◌≡◌, drop}
use Rattle.lists.specs.Filters.{test_words}
use Rattle.lists.specs.Refusals.{tests_fault}
use Rattle.lists.proofs.check_tests.Given as goal

abbrev pub invariant-loop-j : goal.invariant-loop-j
invariant-loop-j l = tests_fault (l.n - l.j) (drop (test_words * l.j) l.words) ≡ tests_fault l.n l.words
