use Rattle.std.proofs.Common.{sym, ap, ◌∙◌, ◌≡◌, arith}
use Rattle.std.proofs.lemmas.Result.{err_from_is_err_and}
use Rattle.lists.specs.Refusals.{test_fault}
use Rattle.lists.proofs.Turns.{tests_turn, tests_found, tests_end}
use Rattle.lists.proofs.check_tests.Goals as goal

pub returns-in_err-check : goal.returns-in_err-check
returns-in_err-check c = let p = err_from_is_err_and c.from_residual.result c.from_residual.ensures.1 in
    rw (p.1, p.2) (sym (tests_found c.args.words.now c.args.n c.loop-j.j _ c.loop-j-test.true (ap test_fault (sym c.at.ensures) ∙ sym c.check.ensures ∙ c.in_err-check.was)) ∙ c.loop-j.invariant)

pub loop-j-preserved : goal.loop-j-preserved
loop-j-preserved c = tests_turn c.args.words.now c.args.n c.loop-j.j c.loop-j-test.true (ap test_fault (sym c.at.ensures) ∙ sym c.check.ensures ∙ c.in_ok-check.was) ∙ c.loop-j.invariant

pub returns : goal.returns
returns c = let z : c.loop-j.j ≡ c.args.n = omega arith in sym (tests_end c.args.n _) ∙ rw z at c.loop-j.invariant
