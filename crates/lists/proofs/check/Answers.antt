use Rattle.std.proofs.Common.{◌+◌, ◌-◌, sym, ap, ◌∙◌, refl, arith, length-drop, drop_of_length-le}
use Rattle.std.proofs.lemmas.List.{take_rest}
use Rattle.lists.specs.Filters.{max_filters}
use Rattle.lists.specs.Refusals.{listed_from, listed}
use Rattle.lists.specs.laws.Faults.{NoFault, no_fault}
use Rattle.lists.specs.laws.Walking.{listed_end}
use Rattle.lists.proofs.Turns.{list_turn, list_found, list_over}
use Rattle.lists.proofs.check.Goals as goal
use Rattle.lists.proofs.check.Goals.{In_default}

passed : (c : In_default) → NoFault c.loop-rest.rest.now
passed c = no_fault _ (sym c.in_default.ensures)

pub loop-rest-init : goal.loop-rest-init
unfolding listed
loop-rest-init c = record { few = omega arith; few_tests = omega arith; same = refl }

pub returns-then-filters-eq-FILTERS : goal.returns-then-filters-eq-FILTERS
returns-then-filters-eq-FILTERS c = sym (list_over c.loop-rest.rest.now c.loop-rest.filters c.loop-rest.tests (omega arith) c.loop-rest-test.true) ∙ c.loop-rest.invariant.same

pub returns-in-Err : goal.returns-in-Err
returns-in-Err c =
    sym (list_found c.loop-rest.rest.now c.loop-rest.filters c.loop-rest.tests c.in-Err.refusal (omega arith) c.loop-rest-test.true (sym c.in-Err.ensures)) ∙
    c.loop-rest.invariant.same

pub overflow_add-tests : goal.overflow_add-tests
overflow_add-tests c = omega (arith, passed (goal.at.overflow_add-tests c).In_default)

pub slice_bounds-rest-count : goal.slice_bounds-rest-count
slice_bounds-rest-count c = omega (arith, passed (goal.at.slice_bounds-rest-count c).In_default, c.filter_words.ensures, c.count_at-count.ensures)

pub loop-rest-preserved : goal.loop-rest-preserved
loop-rest-preserved c =
    let q = passed (goal.at.loop-rest-preserved c).In_default in
    record {
      few = omega arith;
      few_tests = omega (arith, c.count_at-count.ensures);
      same =
          ap (listed_from (max_filters - (c.loop-rest.filters + 1)) (c.loop-rest.filters + 1) (c.loop-rest.tests + c.count_at-count.result)) (take_rest c.loop-rest.rest.now c.filter_words.result) ∙
          rw (c.filter_words.ensures, c.count_at-count.ensures)
          (sym (list_turn c.loop-rest.rest.now c.loop-rest.filters c.loop-rest.tests (omega arith) c.loop-rest-test.true (sym c.in_default.ensures)) ∙ c.loop-rest.invariant.same);
    }

pub loop-rest-smaller : goal.loop-rest-smaller
loop-rest-smaller c = rw (take_rest c.loop-rest.rest.now c.filter_words.result) (rw length-drop (omega (arith, c.filter_words.ensures)))

pub returns : goal.returns
returns c =
    sym (ap (listed_from (max_filters - c.loop-rest.filters) c.loop-rest.filters c.loop-rest.tests) (drop_of_length-le c.loop-rest.rest.now c.loop-rest-test.false) ∙
    listed_end (max_filters - c.loop-rest.filters) c.loop-rest.filters c.loop-rest.tests) ∙
    c.loop-rest.invariant.same

pub slice_bounds-rest-start : goal.slice_bounds-rest-start
slice_bounds-rest-start c = omega (arith, passed (goal.at.slice_bounds-rest-start c).In_default, c.filter_words.ensures, c.count_at-count.ensures)
