-- Change request P4: what the activity lamp answers, which works the residues from the list as it walks the table.
--   Answer              what the lamp shows, or why it is refused
--   Numbers             the refusal's number or 0, the filter's number, whether the lamp is lit (1) or not (0), the questions asked
--   numbers_of a         these numbers for each case of an answer
--   is_as_is t n q          record n of the table t asks the question q, or is final where q is none
--   some_held s          a filter of the state s is held
--   lamp_ends s          the lamp goes no further than s: a filter is held, or s is final
--   lamp_next t r n q      the next number that record n has at the way of q, where field f of the frame reads r f
--   lamp_from fs t m r a k n s   the walk from record n and the state s of the list fs on, in a table of m states, with a questions left and k asked so far
--   lamp_of l f p t m    the whole of it: list, frame, box port, table, number of states
use Rattle.std.specs.Prelude.{ℕ, zero, suc, ◌+◌, Bool, cond, not, ◌&&◌, ◌||◌, List, eqb, ltb, length, Option, Result, Ok, Err}
use Rattle.refusals.specs.declared.Refusal.TheVariants.{LongFrame, Table}
use Rattle.refusals.specs.declared.Refused.{Refused}
use Rattle.refusals.specs.Numbers.{number_of, unplaced}
use Rattle.fields.specs.Ethernet.{max_frame}
use Rattle.fields.specs.Fields.{field}
use Rattle.sets.specs.Sets.{some}
use Rattle.lists.specs.Filters.{Item, Filter, filters_of, tests_in, kind_at, field_at, mask_at, value_at}
use Rattle.lists.specs.Refusals.{Listed, listed}
use Rattle.lists.specs.Words.{kind_of, mask_of, value_of}
use Rattle.states.specs.Runs.{way_of, advance, asks}
use Rattle.states.specs.States.{State, standing, is_held, start, Question, nothing, ask, question_of}
use Rattle.tables.specs.Tables.{slots_of, word_of, next_at}
use Rattle.lamp.specs.declared.Lamp.{Lamp}
use Rattle.lamp.specs.declared.Lamp.TheVariants.{Lit, Dark}

abbrev pub Answer : Type 0
Answer = Result Lamp (Refused ℕ)

pub record Numbers : Type 0 where
  pub refusal : ℕ
  pub filter : ℕ
  pub lit : ℕ
  pub asked : ℕ

-- A refusal says no and 0.
abbrev pub numbers_of : Answer → Numbers
numbers_of (Ok (Lit k)) = record { refusal = 0; filter = 0; lit = 1; asked = k }
numbers_of (Ok (Dark k)) = record { refusal = 0; filter = 0; lit = 0; asked = k }
numbers_of (Err e) = record { refusal = number_of e.refusal; filter = e.place; lit = 0; asked = 0 }

-- The four words of a question; of a final record the kind alone. A mask under kinds 3 and 4 makes another question, and so does damage.
unfoldable pub is_as_is : List ℕ → ℕ → Question → Bool
is_as_is t n nothing = eqb (word_of t n kind_at) 0
is_as_is t n (ask q) =
    eqb (word_of t n kind_at) (kind_of q.test) &&
    eqb (word_of t n field_at) q.field &&
    eqb (word_of t n mask_at) (mask_of q.test) &&
    eqb (word_of t n value_at) (value_of q.test)

unfoldable pub some_held : State → Bool
some_held s = some (length s) (λ i. is_held (standing s i))

unfoldable pub lamp_ends : State → Bool
lamp_ends s = some_held s || not (asks (question_of s))

unfoldable pub lamp_next : List ℕ → (ℕ → Option ℕ) → ℕ → Item → ℕ
lamp_next t r n q = word_of t n (next_at (way_of r q))

-- A record is checked before the walk may end there; then a held filter ends it, lit.
unfoldable pub lamp_at : Bool → Bool → ℕ → Answer → Answer
lamp_at as_is held k on = cond as_is (cond held (Ok (Lit k)) on) (Err (unplaced Table))

-- A final state ends it, dark; else it goes on to the next record, if that is one of the m.
unfoldable pub lamp_on : List ℕ → ℕ → (ℕ → Option ℕ) → ℕ → ℕ → (ℕ → Answer) → Question → Answer
lamp_on t m r k n on nothing = Ok (Dark k)
lamp_on t m r k n on (ask q) = cond (ltb (lamp_next t r n q) m) (on (lamp_next t r n q)) (Err (unplaced Table))

-- Where no question is left it counts as final; with as many to begin with as tests remain it is (laws/Ends).
unfoldable pub lamp_from : List Filter → List ℕ → ℕ → (ℕ → Option ℕ) → ℕ → ℕ → ℕ → State → Answer
lamp_from fs t m r zero k n s = lamp_at (is_as_is t n (question_of s)) (some_held s) k (Ok (Dark k))
lamp_from fs t m r (suc a) k n s =
    let on : ℕ → Answer = λ next. lamp_from fs t m r a (k + 1) next (advance fs r s) in
    lamp_at (is_as_is t n (question_of s)) (some_held s) k (lamp_on t m r k n on (question_of s))

-- The list's refusals, then 12, then 13 for a number of states that is 0 or above the slots; else the walk from record 0 and the start.
unfoldable pub lamp_by : Listed → List ℕ → List ℕ → ℕ → List ℕ → ℕ → Answer
lamp_by (Err e) l f p t m = Err e
lamp_by (Ok c) l f p t m =
    let fs = filters_of l in
    cond (ltb max_frame (length f)) (Err (unplaced LongFrame))
    (cond (eqb m 0 || ltb (slots_of t) m) (Err (unplaced Table)) (lamp_from fs t m (field f p) (tests_in fs) 0 0 (start fs)))

unfoldable pub lamp_of : List ℕ → List ℕ → ℕ → List ℕ → ℕ → Answer
lamp_of l f p t m = lamp_by (listed l) l f p t m
