-- Reading on from here gives what reading the whole list gives; the measure is the number of words left.
use Rattle.std.proofs.Common.{◌-◌, ◌*◌, ◌≤◌, ◌≡◌, length}
use Rattle.lists.specs.Filters.{max_filters, max_tests}
use Rattle.lists.specs.Refusals.{listed_from, listed}
use Rattle.lists.proofs.check.Given as goal

abbrev pub invariant-loop-rest : goal.invariant-loop-rest
invariant-loop-rest l = record {
  few : l.filters ≤ max_filters;
  few_tests : l.tests ≤ max_tests * l.filters;
  same : listed_from (max_filters - l.filters) l.filters l.tests l.rest ≡ listed l.list;
}

abbrev pub decreases-loop-rest : goal.decreases-loop-rest
decreases-loop-rest l = length l.rest
