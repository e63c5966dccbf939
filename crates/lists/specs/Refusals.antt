-- Document 01, "Refusal numbers", 1 to 9: the list is read left to right and the first fault wins.
--   test_fault w         the fault of the test that the words w mean, refusals 5 to 9
--   tests_fault n ws     the first fault of the n tests that the words begin with
--   filter_fault ws      the fault of the filter that the words begin with, in document 01's order within a filter
--   listed ws           the list's filters and tests counted, or its first fault with the filter's number
use Rattle.std.specs.Prelude.{ℕ, zero, suc, ◌+◌, Bool, cond, not, ◌&&◌, ◌||◌, List, [], ◌∷◌, leb, ltb, eqb, length, drop, Result, Ok, Err}
use Rattle.std.specs.Int.Bits.{bit_and}
use Rattle.refusals.specs.declared.Refusal.{Refusal}
use Rattle.refusals.specs.declared.Refusal.TheVariants.{ManyFilters, CutFilter, Rank, ManyTests, Kind, Field, Mask, Width, Value}
use Rattle.refusals.specs.declared.Refused.{Refused}
use Rattle.refusals.specs.Numbers.{refused}
use Rattle.fields.specs.Widths.{field_count, full}
use Rattle.lists.specs.declared.Counts.{Counts}
use Rattle.lists.specs.declared.TestWords.{TestWords}
use Rattle.lists.specs.Filters.{max_filters, max_tests, max_rank, head_words, test_words, kind_differs, kind_at_least, group_word, level_word, count_word, filter_words}
use Rattle.lists.specs.Words.{words_of}

-- A fault; or none, where it is Ok.
abbrev pub Fault : Type 0
Fault = Result (Unit {0}) Refusal

-- Two faults, of which the first one wins.
abbrev pub first_of : Fault → Fault → Fault
first_of (Ok u) later = later
first_of (Err r) later = Err r

-- Kinds 1 and 2 have a mask.
abbrev pub masked : ℕ → Bool
masked k = leb k kind_differs

unfoldable pub test_fault : TestWords → Fault
test_fault w =
    cond (eqb w.kind 0 || ltb kind_at_least w.kind) (Err Kind)
    (cond (leb field_count w.field) (Err Field)
    (cond (cond (masked w.kind) (eqb w.mask 0) (not (eqb w.mask 0))) (Err Mask)
    (cond (ltb (full w.field) w.mask || ltb (full w.field) w.value) (Err Width)
    (cond (masked w.kind && not (eqb (bit_and w.value w.mask) w.value)) (Err Value) (Ok tt)))))

unfoldable pub tests_fault : ℕ → List ℕ → Fault
tests_fault zero ws = Ok tt
tests_fault (suc n) ws = first_of (test_fault (words_of ws)) (tests_fault n (drop test_words ws))

unfoldable pub filter_fault : List ℕ → Fault
filter_fault ws =
    cond (ltb (length ws) head_words) (Err CutFilter)
    (cond (ltb max_rank (group_word ws) || ltb max_rank (level_word ws)) (Err Rank)
    (cond (ltb max_tests (count_word ws)) (Err ManyTests)
    (cond (ltb (length ws) (filter_words ws)) (Err CutFilter)
    (tests_fault (count_word ws) (drop head_words ws)))))

-- What reading a list comes to.
abbrev pub Listed : Type 0
Listed = Result Counts (Refused ℕ)

abbrev pub counts : ℕ → ℕ → Counts
counts n t = record { filters = n; tests = t }

-- What the list comes to from filter i on: that filter's fault, or what follows it.
abbrev pub unless_faulty : ℕ → Fault → Listed → Listed
unless_faulty i (Ok u) later = later
unless_faulty i (Err r) later = Err (refused r i)

-- The filters from number i on, of which at most n may follow; t tests came before.
unfoldable pub listed_from : ℕ → ℕ → ℕ → List ℕ → Listed
listed_from zero i t [] = Ok (counts i t)
listed_from zero i t (w ∷ ws) = Err (refused ManyFilters i)
listed_from (suc n) i t [] = Ok (counts i t)
listed_from (suc n) i t (w ∷ ws) =
    unless_faulty i (filter_fault (w ∷ ws)) (listed_from n (i + 1) (t + count_word (w ∷ ws)) (drop (filter_words (w ∷ ws)) (w ∷ ws)))

unfoldable pub listed : List ℕ → Listed
listed ws = listed_from max_filters 0 0 ws
