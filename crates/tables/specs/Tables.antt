-- Document 01, "States and the table", third and fourth paragraph: a table is a run of records, and a record has the words of its question, its next numbers and its sets.
--   set_words, record_words, max_slots   words a set and a record, and the most slots of a table
--   holds_at .. out_at          the places of a record's words behind its question's; next_at o is that of the next number at the outcome o
--   as_words s                 the words of a set
--   record_with q next s o     the record of a question's words, a next number for each outcome, a sure set and an out set
--   slots_of t                 the slots of the table t: its words divided by those of a record, whole part, at most 4,096
--   word_of t n j              word j of record n
--   set_at word j              the set that the words from place j on say
--   sure_set_at t n, out_set_at t n   the sets of record n
use Rattle.std.specs.Prelude.{ℕ, ◌+◌, ◌*◌, ◌/◌, min, List, [], ◌∷◌, ◌++◌, length, get_or}
use Rattle.residue.specs.declared.Outcome.{Outcome}
use Rattle.residue.specs.declared.Outcome.TheVariants.{Holds, Fails, Absent}
use Rattle.sets.specs.Halves.{low_half, high_half, of_halves}
use Rattle.lists.specs.Filters.{test_words}

abbrev pub max_slots : ℕ
max_slots = 4096

abbrev pub set_words : ℕ
set_words = 2

-- The places of a record's words: its question's, as in a list; its next numbers, its sets.
abbrev pub holds_at : ℕ
holds_at = test_words

abbrev pub fails_at : ℕ
fails_at = holds_at + 1

abbrev pub absent_at : ℕ
absent_at = fails_at + 1

abbrev pub sure_at : ℕ
sure_at = absent_at + 1

abbrev pub out_at : ℕ
out_at = sure_at + set_words

abbrev pub record_words : ℕ
record_words = out_at + set_words

unfoldable pub next_at : Outcome → ℕ
next_at Holds = holds_at
next_at Fails = fails_at
next_at Absent = absent_at

-- A set is two words, the low half first (document 02, P8): filter i is bit i of the set.
unfoldable pub as_words : ℕ → List ℕ
as_words s = low_half s ∷ high_half s ∷ []

unfoldable pub record_with : List ℕ → (Outcome → ℕ) → ℕ → ℕ → List ℕ
record_with q next s o = q ++ (next Holds ∷ next Fails ∷ next Absent ∷ []) ++ as_words s ++ as_words o

unfoldable pub slots_of : List ℕ → ℕ
slots_of t = min (length t / record_words) max_slots

unfoldable pub word_of : List ℕ → ℕ → ℕ → ℕ
word_of t n j = get_or t (record_words * n + j) 0

unfoldable pub set_at : (ℕ → ℕ) → ℕ → ℕ
set_at word j = of_halves (word j) (word (j + 1))

unfoldable pub sure_set_at : List ℕ → ℕ → ℕ
sure_set_at t n = set_at (word_of t n) sure_at

unfoldable pub out_set_at : List ℕ → ℕ → ℕ
out_set_at t n = set_at (word_of t n) out_at
