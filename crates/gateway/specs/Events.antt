-- Change request P5: runs of frames and clearings.
--   sum_of ts        the sum of the tallies
--   Event           a frame judged, by whatever port, table, states and verdicts; or a clearing
--   Book            the tallies, and how many frames were judged since the last clearing
--   opened ts       the book after a clearing of the tallies ts
--   book_after e b   the book after an event
--   book_over es b   the book after a run of events
use Rattle.std.specs.Prelude.{ℕ, ◌+◌, List, [], ◌∷◌, Ok, Err}
use Rattle.gateway.specs.Gateway.{Judged, Judgement, judged, emptied}

unfoldable pub sum_of : List ℕ → ℕ
sum_of [] = 0
sum_of (t ∷ ts) = t + sum_of ts

pub data Event : Type 0 where
  frame : List ℕ → ℕ → List ℕ → ℕ → List ℕ → ℕ → Event
  clearing : Event

pub record Book : Type 0 where
  pub tallies : List ℕ
  pub frames : ℕ

-- A frame that gets a verdict is judged; one that is refused is not.
unfoldable pub verdicts_in : Judged → ℕ
verdicts_in (Ok v) = 1
verdicts_in (Err r) = 0

unfoldable pub booked : Judgement → ℕ → Book
booked j n = record { tallies = j.tallies; frames = n + verdicts_in j.answer }

unfoldable pub opened : List ℕ → Book
opened ts = record { tallies = emptied ts; frames = 0 }

unfoldable pub book_after : Event → Book → Book
book_after (frame f p t m vs d) b = booked (judged f p t m vs d b.tallies) b.frames
book_after clearing b = opened b.tallies

unfoldable pub book_over : List Event → Book → Book
book_over [] b = b
book_over (e ∷ es) b = book_over es (book_after e b)
