-- The outcome goes by what reading the list comes to.
-- Assumes nothing.
use Rattle.std.proofs.Common.{sym, ◌∙◌}
use Rattle.std.proofs.lemmas.Result.{err_from_is_err_and}
use Rattle.builder.specs.laws.Building.{answered_refused, answered_accepted}
use Rattle.builder.proofs.build.Goals as goal

pub build_accepted-requires : goal.build_accepted-requires
build_accepted-requires c = (c.in_ok-counts.counts.tests, sym c.check.ensures ∙ c.in_ok-counts.was)

pub returns-in_err-counts : goal.returns-in_err-counts
returns-in_err-counts c =
    let p = err_from_is_err_and c.from_residual.result c.from_residual.ensures.1 in
    rw (p.1, p.2) (answered_refused _ _ _ (sym c.check.ensures ∙ c.in_err-counts.was))

pub returns : goal.returns
returns c = answered_accepted _ _ _ (sym c.check.ensures ∙ c.in_ok-counts.was) c.build_accepted.ensures
