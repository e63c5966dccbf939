-- The words that reading counts are the text's list, and they lie within the array.
-- Assumes nothing.
use Rattle.std.proofs.Common.{refl, sym, ap, ◌∙◌, Err, length-take-le}
use Rattle.text.specs.laws.Reading.{reads_refused, reads_why, reads_accepted, reads_fit, reads_first}
use Rattle.builder.specs.Outcome.{refused}
use Rattle.text_builder.specs.laws.Texts.{text_refused, text_built}
use Rattle.text_builder.proofs.build_text.Goals as goal

pub slice_bounds-words-end : goal.slice_bounds-words-end
slice_bounds-words-end c = reads_fit c.read_words.ensures _ c.in-Ok.is

pub slice_bounds-build-end : goal.slice_bounds-build-end
slice_bounds-build-end c = sym (length-take-le _ _ (reads_fit c.read_words.ensures _ c.in-Ok.is))

pub returns-in-Err : goal.returns-in-Err
unfolding refused
returns-in-Err c =
    let why = reads_why c.read_words.ensures _ c.in-Err.is in
    let made = c.into.ensures in
    rw (text_refused _ _ _ (reads_refused c.read_words.ensures (c.in-Err.is ∙ ap Err why))) (record { answer = cc; table = refl; scratch = refl })

pub returns-in-Ok : goal.returns-in-Ok
returns-in-Ok c = rw (text_built _ _ _ (reads_accepted c.read_words.ensures _ c.in-Ok.is), ← reads_first c.read_words.ensures _ c.in-Ok.is) c.build.ensures
