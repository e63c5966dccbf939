-- `text::read_items` meets its contract: what each byte does keeps the invariant, and at the text's end an item may still be open.
-- Assumes nothing.
use Rattle.std.proofs.Common.{sym, ◌∙◌, ap}
use Rattle.std.specs.Prelude.{Ok}
use Rattle.text.proofs.Turns.{skipped, spelt, stored, wrong_refused, ended_apart, ended_inside}
use Rattle.text.proofs.read_items.Goals as goal
use Rattle.text.proofs.read_items.Goals.{in-Skip, in-Digit, in-Word}

pub loop-byte-preserved : goal.loop-byte-preserved
loop-byte-preserved c =
    let read = c.loop-byte.invariant in
    let there = c.loop-byte-test.true in
    let does = sym c.step_by.ensures ∙ c.in-Ok.is in
    elim c.match-step.branch [
      | in-Skip w ↦ rw (w.words-is, w.count-is, w.place-is) (skipped _ _ _ _ _ _ read there (does ∙ ap Ok w.in-Skip.is))
      | in-Digit w ↦ rw (w.words-is, w.count-is, w.place-is) (spelt _ _ _ _ _ _ read _ there (does ∙ ap Ok w.in-Digit.is))
      | in-Word w ↦ rw (w.words-is, w.count-is, w.place-is) (stored _ _ _ _ _ _ read _ there (does ∙ ap Ok w.in-Word.is))
    ]

pub returns-in_default : goal.returns-in_default
returns-in_default c = wrong_refused _ _ _ _ _ _ c.loop-byte.invariant _ c.loop-byte-test.true (sym c.step_by.ensures ∙ c.in_default.is)

pub returns-in_default-place : goal.returns-in_default-place
returns-in_default-place c = ended_apart _ _ _ _ _ _ c.loop-byte.invariant c.loop-byte-test.false c.in_default-place.is

pub returns : goal.returns
returns c = ended_inside _ _ _ _ _ _ c.loop-byte.invariant _ c.loop-byte-test.false c.in-Some.is
