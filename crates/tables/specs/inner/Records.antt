-- The parts of a record in a table, and what changes them.
--   ask_words                    words a question
--   fresh_record q s o           a record with no next numbers yet; fresh_by f the words of the code's Fresh
--   fresh_in r                   what the code's Fresh has of the record r
--   agree r f                   the records r and f have the same question and the same sets, whatever their next numbers
--   record_at t n                all words of record n
--   agreeing_from k n t f        the first of k records from record n on that agrees with f; none where none does
--   question_at t n, way_at t n o   the words of its question, its next numbers
--   with_next n o v t            the table t with v as the next number of record n at o
use Rattle.std.specs.Prelude.{ℕ, zero, suc, ◌+◌, ◌*◌, Bool, cond, ◌&&◌, List, [], ◌∷◌, eqb, get_or, take, drop, set, Option, None, Some}
use Rattle.residue.specs.declared.Outcome.{Outcome}
use Rattle.lists.specs.Filters.{test_words, kind_at, field_at, mask_at, value_at}
use Rattle.lists.specs.Words.{test_list, words_of}
use Rattle.tables.specs.declared.Fresh.{Fresh}
use Rattle.tables.specs.Tables.{sure_at, out_at, record_words, next_at, set_at, record_with, word_of}

abbrev pub ask_words : ℕ
ask_words = test_words

unfoldable pub fresh_record : List ℕ → ℕ → ℕ → List ℕ
fresh_record q s o = record_with q (λ _. 0) s o

unfoldable pub fresh_by : Fresh → List ℕ
fresh_by f = fresh_record (test_list f.asked) f.sure f.out

unfoldable pub fresh_in : List ℕ → Fresh
fresh_in r = record { out = set_at (λ j. get_or r j 0) out_at; sure = set_at (λ j. get_or r j 0) sure_at; asked = words_of r }

unfoldable pub agree : List ℕ → List ℕ → Bool
agree r f =
    eqb (set_at (λ j. get_or r j 0) out_at) (set_at (λ j. get_or f j 0) out_at) &&
    eqb (set_at (λ j. get_or r j 0) sure_at) (set_at (λ j. get_or f j 0) sure_at) &&
    eqb (get_or r kind_at 0) (get_or f kind_at 0) &&
    eqb (get_or r field_at 0) (get_or f field_at 0) &&
    eqb (get_or r mask_at 0) (get_or f mask_at 0) &&
    eqb (get_or r value_at 0) (get_or f value_at 0)

unfoldable pub record_at : List ℕ → ℕ → List ℕ
record_at t n = take record_words (drop (record_words * n) t)

unfoldable pub agreeing_from : ℕ → ℕ → List ℕ → List ℕ → Option ℕ
agreeing_from zero n t f = None
agreeing_from (suc k) n t f = cond (agree (record_at t n) f) (Some n) (agreeing_from k (n + 1) t f)

unfoldable pub question_at : List ℕ → ℕ → List ℕ
question_at t n = word_of t n kind_at ∷ word_of t n field_at ∷ word_of t n mask_at ∷ word_of t n value_at ∷ []

unfoldable pub way_at : List ℕ → ℕ → Outcome → ℕ
way_at t n o = word_of t n (next_at o)

unfoldable pub with_next : ℕ → Outcome → ℕ → List ℕ → List ℕ
with_next n o v t = set t (record_words * n + next_at o) v
