-- `text::read_words` meets its contract. A text that is too long changes no word; else its items are read.
-- Assumes nothing.
use Rattle.text.proofs.Turns.{too_long_lem}
use Rattle.text.proofs.read_words.Goals as goal

pub returns-then-is_too_long : goal.returns-then-is_too_long
returns-then-is_too_long c = too_long_lem _ _ c.if-is_too_long.true
