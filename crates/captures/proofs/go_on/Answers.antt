-- `captures::go_on` meets its contract, by what checking the list and the tallies answers. Assumes nothing.
use Rattle.std.proofs.Common.{sym, rules}
use Rattle.captures.proofs.Goings.{fitting, on_refused, on_fitting}
use Rattle.captures.proofs.go_on.Goals as goal

pub invariant_of-counting : goal.invariant_of-counting
invariant_of-counting c = let fit = fitting _ _ _ (sym c.in-Ok.ensures) in record { accepted = fit.0; room = fit.1 }

pub returns-in-Ok : goal.returns-in-Ok
returns-in-Ok c = let went = on_fitting _ _ _ _ _ _ _ _ _ _ (sym c.in-Ok.ensures) c.min-end.ensures c.advance.ensures.went in search rules

pub returns-in-Err : goal.returns-in-Err
returns-in-Err c = rw c.into.ensures (on_refused _ _ _ _ _ _ (sym c.in-Err.ensures))
