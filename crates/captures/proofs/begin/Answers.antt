-- `captures::begin` meets its contract: the words that reading counts are the text's list. Assumes nothing.
use Rattle.std.proofs.Common.{sym, ◌∙◌}
use Rattle.std.proofs.lemmas.Result.{err_from_is_err_and}
use Rattle.captures.specs.Parts.{begun_with}
use Rattle.captures.proofs.Beginning.{begun_unread, begun_read}
use Rattle.captures.proofs.begin.Goals as goal

pub returns-in_err-count : goal.returns-in_err-count
returns-in_err-count c =
    let p = err_from_is_err_and c.from_residual.result c.from_residual.ensures.1 in
    (rw (p.1, p.2) (begun_unread c.read_words.ensures _ c.in_err-count.was), c.read_words.ensures.words)

pub returns-in_err-checked : goal.returns-in_err-checked
unfolding begun_with
returns-in_err-checked c =
    let p = err_from_is_err_and c.from_residual-in_err-checked.result c.from_residual-in_err-checked.ensures.1 in
    (rw (p.1, p.2) (rw (sym c.check.ensures ∙ c.in_err-checked.was) at (begun_read c.read_words.ensures _ c.in_ok-count.was)), c.read_words.ensures.words)

pub returns : goal.returns
unfolding begun_with
returns c =
    (rw (sym c.check.ensures ∙ c.in_ok-checked.was) at (begun_read c.read_words.ensures _ c.in_ok-count.was), c.read_words.ensures.words)
