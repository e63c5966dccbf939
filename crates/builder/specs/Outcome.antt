-- Document 01, "Refusal numbers" and "States and the table", last paragraph: what building answers and leaves.
--   Built           what building comes to: so many states, or a refusal with the filter's number
--   refusal_of b, number_of b   document 01's numbers for each case: the refusal's or 0; the number of states or the filter's
--   Left            the answer, every word of the table and every word of the scratch afterwards
--   Answered        an answer and the words afterwards are those of an outcome
--   outcome l t s   what building the list l in the table t with the scratch s comes to
use Rattle.std.specs.Prelude.{ℕ, ◌*◌, ◌≡◌, cond, List, ◌++◌, ltb, length, drop, Result, Ok, Err}
use Rattle.refusals.specs.declared.Refusal.TheVariants.{ScratchRoom, TableRoom}
use Rattle.refusals.specs.declared.Refused.{Refused}
use Rattle.refusals.specs.Numbers as R
use Rattle.lists.specs.Filters.{Filter, filters_of}
use Rattle.lists.specs.Refusals.{Listed, listed}
use Rattle.words.specs.Lent.{cleared}
use Rattle.tables.specs.Tables.{record_words, slots_of}
use Rattle.slots.specs.Words.{slot_words}
use Rattle.machine.specs.Box.{states_of, records_in}

abbrev pub Built : Type 0
Built = Result ℕ (Refused ℕ)

abbrev pub refusal_of : Built → ℕ
refusal_of (Ok n) = 0
refusal_of (Err r) = R.number_of r.refusal

abbrev pub number_of : Built → ℕ
number_of (Ok n) = n
number_of (Err r) = r.place

pub record Left : Type 0 where
  pub answer : Built
  pub table : List ℕ
  pub scratch : List ℕ

-- The words that the slots of the table have, and that they ask of the scratch.
unfoldable pub table_words : List ℕ → ℕ
table_words t = record_words * slots_of t

unfoldable pub scratch_words : List ℕ → ℕ
scratch_words t = slot_words * slots_of t

-- Refusals 1 to 10 change no word.
unfoldable pub refused : Refused ℕ → List ℕ → List ℕ → Left
refused r t s = record { answer = Err r; table = t; scratch = s }

-- Refusal 11 leaves zeros in all slots; the words behind them stay.
unfoldable pub no_room : List ℕ → List ℕ → Left
no_room t s =
    record { answer = Err (R.unplaced TableRoom); table = cleared (table_words t) t; scratch = cleared (scratch_words t) s }

-- Success leaves the records, and every table word after them as before.
unfoldable pub placed : List Filter → List ℕ → List ℕ → Left
placed fs t s =
    record {
      answer = Ok (length (states_of fs));
      table = records_in fs ++ drop (length (records_in fs)) t;
      scratch = cleared (scratch_words t) s;
    }

-- 10, then 11, else the states.
unfoldable pub by_room : List Filter → List ℕ → List ℕ → Left
by_room fs t s =
    cond (ltb (length s) (scratch_words t)) (refused (R.unplaced ScratchRoom) t s)
    (cond (ltb (slots_of t) (length (states_of fs))) (no_room t s) (placed fs t s))

unfoldable pub outcome_by : Listed → List ℕ → List ℕ → List ℕ → Left
outcome_by (Err r) l t s = refused r t s
outcome_by (Ok c) l t s = by_room (filters_of l) t s

unfoldable pub outcome : List ℕ → List ℕ → List ℕ → Left
outcome l t s = outcome_by (listed l) l t s

pub record Answered (l : Left) (b : Built) (t s : List ℕ) : Type 0 where
  pub answer : b ≡ l.answer
  pub table : t ≡ l.table
  pub scratch : s ≡ l.scratch
