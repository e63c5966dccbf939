-- The records of the states that building a text answers lie within the table lent.
--   states_fit       the table has room for the records of the states that are answered
use Rattle.std.specs.Prelude.{ℕ, ◌*◌, ◌≤◌, ◌≡◌, ltb, List, length, Ok, Err}
use Rattle.std.proofs.Common.{arith, sym, ◌∙◌}
use borrow.Author.Tests.{ltb-false, le-ltb}
use Rattle.residue.specs.laws.Choice.{by_cond, neither}
use Rattle.lists.specs.Filters.{filters_of}
use Rattle.lists.specs.Refusals.{Listed, listed}
use Rattle.tables.specs.Tables.{record_words, max_slots, slots_of}
use Rattle.tables.proofs.laws.Least.{slots_least}
use Rattle.machine.specs.Box.{states_of}
use Rattle.builder.specs.Outcome.{Left, scratch_words, refused, no_room, placed, by_room, outcome_by, outcome}
use Rattle.text.specs.Text as T
use Rattle.text_builder.specs.Outcome.{text_outcome}

-- Built with n states: there are as many slots.
abbrev Few : List ℕ → ℕ → Left → Type 0
Few t n x = x.answer ≡ Ok n → n ≤ slots_of t

states_by : (x : Listed) (l t s : List ℕ) (n : ℕ) → Few t n (outcome_by x l t s)
unfolding outcome_by refused by_room no_room placed
states_by (Err r) l t s n e = cc
states_by (Ok c) l t s n e =
    by_cond (Few t n) (ltb (length s) (scratch_words t)) (λ k f. cc)
    (λ k.
    by_cond (Few t n) (ltb (slots_of t) (length (states_of (filters_of l)))) (λ m f. cc)
    (λ m f. let count : length (states_of (filters_of l)) ≡ n = cc in omega (arith, ltb-false (slots_of t) (length (states_of (filters_of l))) m)))
    e

text_states : (x t s : List ℕ) (n : ℕ) → Few t n (text_outcome x t s)
unfolding text_outcome refused outcome
text_states x t s n = by_cond (Few t n) (T.readable x) (λ _. states_by (listed (T.words_of x)) (T.words_of x) t s n) (λ _ e. cc)

pub states_fit : (x t s : List ℕ) {n : ℕ} → Ok n ≡ (text_outcome x t s).answer → record_words * n ≤ length t
states_fit x t s {n} e =
    let within = sym (slots_least t n) ∙ le-ltb (slots_of t) n (text_states x t s n (sym e)) in
    ltb-false (length t) (record_words * n) (neither (ltb max_slots n) (ltb (length t) (record_words * n)) within).1
