use Rattle.std.proofs.Common.{arith, sym, ap, ◌∙◌, Ok, Err}
use Rattle.std.proofs.lemmas.Result.{err_from_is_err_and}
use Rattle.scanner.proofs.laws.Scans.{scanned_refused, scanned_long, scanned_set}
use Rattle.scanner.proofs.scan.Goals as goal

pub returns-in_err-checked : goal.returns-in_err-checked
returns-in_err-checked c =
    let p = err_from_is_err_and c.from_residual.result c.from_residual.ensures.1 in
    rw (p.1, p.2) (sym (scanned_refused _ _ _ _ (sym c.check.ensures ∙ c.in_err-checked.was)))

pub returns-then-is_long : goal.returns-then-is_long
returns-then-is_long c = ap Err c.into.ensures ∙ sym (scanned_long _ _ _ _ (sym c.check.ensures ∙ c.in_ok-checked.was) (omega arith))

pub scan_accepted-requires : goal.scan_accepted-requires
scan_accepted-requires c = (c.in_ok-checked.checked.tests, sym c.check.ensures ∙ c.in_ok-checked.was)

pub returns : goal.returns
returns c = ap Ok c.scan_accepted.ensures ∙ sym (scanned_set _ _ _ _ (sym c.check.ensures ∙ c.in_ok-checked.was) (omega arith))
