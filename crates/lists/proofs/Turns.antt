-- One turn of each loop over a list's words, as a step of the definition.
--   tests_turn, tests_found      the next test has no fault; it has one
--   list_turn, list_found        the next filter has no fault; it has one
--   list_over                   a filter follows the last
use Rattle.std.specs.Prelude.{ℕ, suc, ◌+◌, ◌-◌, ◌*◌, ◌<◌, ◌≡◌, List, [], ◌∷◌, length, drop, Ok, Err}
use Rattle.std.proofs.Common.{sym, ◌∙◌, not-suc-le-zero, arith, drop-drop}
use Rattle.refusals.specs.declared.Refusal.{Refusal}
use Rattle.refusals.specs.declared.Refusal.TheVariants.{ManyFilters}
use Rattle.refusals.specs.Numbers.{refused}
use Rattle.lists.specs.Filters.{max_filters, test_words, count_word, filter_words}
use Rattle.lists.specs.Words.{words_of}
use Rattle.lists.specs.Refusals.{Fault, first_of, test_fault, tests_fault, filter_fault, unless_faulty, listed_from}
use Rattle.lists.specs.laws.Walking.{listed_step}

-- The tests from the j-th on, by its fault.
tests_here : (ws : List ℕ) (n j : ℕ) (x : Fault) → j < n → test_fault (words_of (drop (test_words * j) ws)) ≡ x →
    tests_fault (n - j) (drop (test_words * j) ws) ≡ first_of x (tests_fault (n - (j + 1)) (drop (test_words * (j + 1)) ws))
unfolding tests_fault
tests_here ws n j x l e =
    let z : n - j ≡ suc (n - (j + 1)) = omega arith in
    let y : test_words * j + test_words ≡ test_words * (j + 1) = omega arith in
    rw (z, e, drop-drop test_words (test_words * j) ws, y)

pub tests_turn : (ws : List ℕ) (n j : ℕ) → j < n → test_fault (words_of (drop (test_words * j) ws)) ≡ Ok tt →
    tests_fault (n - (j + 1)) (drop (test_words * (j + 1)) ws) ≡ tests_fault (n - j) (drop (test_words * j) ws)
tests_turn ws n j l e = sym (tests_here ws n j (Ok tt) l e)

pub tests_found : (ws : List ℕ) (n j : ℕ) (r : Refusal) → j < n → test_fault (words_of (drop (test_words * j) ws)) ≡ Err r →
    tests_fault (n - j) (drop (test_words * j) ws) ≡ Err r
tests_found ws n j r l e = tests_here ws n j (Err r) l e

pub tests_end : (n : ℕ) (ws : List ℕ) → tests_fault (n - n) ws ≡ Ok tt
unfolding tests_fault
tests_end n ws = let z : n - n ≡ 0 = omega arith in rw z

-- The list from some words on, by the first filter's fault.
list_here : (ws : List ℕ) (i t : ℕ) (x : Fault) → i < max_filters → 0 < length ws → filter_fault ws ≡ x →
    listed_from (max_filters - i) i t ws ≡ unless_faulty i x (listed_from (max_filters - (i + 1)) (i + 1) (t + count_word ws) (drop (filter_words ws) ws))
list_here ws i t x h l e =
    let z : max_filters - i ≡ suc (max_filters - (i + 1)) = omega arith in
    rw z (listed_step (max_filters - (i + 1)) i t ws l ∙ rw e)

pub list_turn : (ws : List ℕ) (i t : ℕ) → i < max_filters → 0 < length ws → filter_fault ws ≡ Ok tt →
    listed_from (max_filters - i) i t ws ≡ listed_from (max_filters - (i + 1)) (i + 1) (t + count_word ws) (drop (filter_words ws) ws)
list_turn ws i t h l e = list_here ws i t (Ok tt) h l e

pub list_found : (ws : List ℕ) (i t : ℕ) (r : Refusal) → i < max_filters → 0 < length ws → filter_fault ws ≡ Err r →
    listed_from (max_filters - i) i t ws ≡ Err (refused r i)
list_found ws i t r h l e = list_here ws i t (Err r) h l e

-- No filter may follow the last.
pub list_over : (ws : List ℕ) (i t : ℕ) → i ≡ max_filters → 0 < length ws → listed_from (max_filters - i) i t ws ≡ Err (refused ManyFilters i)
unfolding listed_from
list_over [] i t h l = absurd (not-suc-le-zero l)
list_over (w ∷ ws) i t h l = let z : max_filters - i ≡ 0 = omega arith in rw z
