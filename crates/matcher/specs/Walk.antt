-- Document 01, "Refusal numbers", the paragraph on classifying: what a walk through any table's words answers.
--   found_at t n k b     what record n shows with k questions asked, of which some met a cut field where b says so
--   Answer              the end of a walk, or why it is refused
--   found a, is_done a   what an answer shows, zeros where it is refused; whether its walk came to a final record
--   damaged t n         record n has a kind above 4, or a kind that is not 0 and a field above the last
--   next_of t v n        the next number that record n has for a frame whose field f is seen as v f
--   cut_of t v n         the field that record n asks of is cut there (document 02, P7)
--   walk_from t m v a k b n  the walk from record n on, in a table of m states, with a questions allowed and k asked so far; b: some met a cut field
--   walk f p t m a      the whole of it: frame, box port, table, number of states, allowance
use Rattle.std.specs.Prelude.{ℕ, zero, suc, ◌+◌, Bool, true, false, cond, not, ◌&&◌, ◌||◌, List, leb, ltb, eqb, length, Option, None, Some, Result, Ok, Err}
use Rattle.refusals.specs.declared.Refusal.{Refusal}
use Rattle.refusals.specs.declared.Refusal.TheVariants.{LongFrame, Table}
use Rattle.residue.specs.Tests.{holds}
use Rattle.fields.specs.Widths.{field_count}
use Rattle.fields.specs.Ethernet.{max_frame}
use Rattle.fields.specs.Seen.{seen, is_cut, reading_of}
use Rattle.fields.specs.declared.Seen.{Seen}
use Rattle.lists.specs.Filters.{kind_at_least, test_of, kind_at, field_at, mask_at, value_at}
use Rattle.tables.specs.Tables.{slots_of, word_of, holds_at, fails_at, absent_at, sure_set_at, out_set_at}
use Rattle.matcher.specs.declared.Found.{Found}
use Rattle.matcher.specs.declared.Walk.{Walk}
use Rattle.matcher.specs.declared.Walk.TheVariants.{Done, Stopped}

abbrev pub Answer : Type 0
Answer = Result Walk Refusal

unfoldable pub found_at : List ℕ → ℕ → ℕ → Bool → Found
found_at t n k b = record { sure = sure_set_at t n; out = out_set_at t n; asked = k; cut = b }

abbrev pub found : Answer → Found
found (Ok (Done x)) = x
found (Ok (Stopped x)) = x
found (Err r) = record { sure = 0; out = 0; asked = 0; cut = false }

abbrev pub is_done : Answer → Bool
is_done (Ok (Done x)) = true
is_done (Ok (Stopped x)) = false
is_done (Err r) = false

unfoldable pub damaged : List ℕ → ℕ → Bool
damaged t n = ltb kind_at_least (word_of t n kind_at) || (not (eqb (word_of t n kind_at) 0) && leb field_count (word_of t n field_at))

-- The absent way where the field is absent; else the holds or the fails way. Kinds 3 and 4 have no mask.
unfoldable pub next_by : List ℕ → ℕ → Option ℕ → ℕ
next_by t n None = word_of t n absent_at
next_by t n (Some x) =
    cond (holds (test_of (word_of t n kind_at) (word_of t n mask_at) (word_of t n value_at)) x)
    (word_of t n holds_at)
    (word_of t n fails_at)

unfoldable pub next_of : List ℕ → (ℕ → Seen) → ℕ → ℕ
next_of t v n = next_by t n (reading_of (v (word_of t n field_at)))

unfoldable pub cut_of : List ℕ → (ℕ → Seen) → ℕ → Bool
cut_of t v n = is_cut (v (word_of t n field_at))

-- The first of these that fits: a damaged record, a final one, a question that may go on.
unfoldable pub arrive : Bool → Bool → Answer → Answer → Answer
arrive true final end on = Err Table
arrive false true end on = end
arrive false false end on = on

-- A next number that is not below the number of states is damage.
unfoldable pub onward : Bool → Answer → Answer
onward true on = on
onward false on = Err Table

-- A question counts, and its field with it, once its way has been taken.
unfoldable pub walk_from : List ℕ → ℕ → (ℕ → Seen) → ℕ → ℕ → Bool → ℕ → Answer
walk_from t m v zero k b n =
    arrive (damaged t n) (eqb (word_of t n kind_at) 0) (Ok (Done (found_at t n k b))) (Ok (Stopped (found_at t n k b)))
walk_from t m v (suc a) k b n =
    let rest = walk_from t m v a (k + 1) (b || cut_of t v n) (next_of t v n) in
    let on = onward (ltb (next_of t v n) m) rest in
    arrive (damaged t n) (eqb (word_of t n kind_at) 0) (Ok (Done (found_at t n k b))) on

unfoldable pub walk : List ℕ → ℕ → List ℕ → ℕ → ℕ → Answer
walk f p t m a =
    cond (ltb max_frame (length f)) (Err LongFrame)
    (cond (eqb m 0 || ltb (slots_of t) m) (Err Table) (walk_from t m (seen f p) a 0 false 0))
