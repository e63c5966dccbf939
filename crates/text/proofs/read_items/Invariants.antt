-- `text::read_items` meets its contract. The loop's invariant: the words stored and the scan of the bytes left are the scan of the text,
-- and each word stored took two bytes, so that there is room for the next.
-- Assumes nothing.
use Rattle.text.proofs.Turns.{Reading}
use Rattle.text.proofs.read_items.Given as goal

abbrev pub invariant-loop-byte : goal.invariant-loop-byte
invariant-loop-byte l = Reading l.text l.initial.words l.words l.count l.place l.byte-index
