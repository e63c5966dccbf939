-- What the code does with the words of a slot, filter by filter. n is the number of filters, ranks the bit sets of those that rank above each filter.
--   head_of w i             the first word of filter i: 0 held, 5 out, else the kind of its first remaining test
--   held_set n w, out_set_in n w   the filters that are held, that are out
--   sure_set_in n ranks w    held, and every filter that ranks above is out
--   closed_words n ranks w  each filter that ranks below a held one made out
--   cut_words n f k w       what the fact k about field f leaves of each filter
--   step_question n ranks o q w   the slot after the question q came to o
--   step_words n ranks o w  the slot after the question of w came to o
--   start_words n ranks ws  the start of the list ws
--   same_words a b          the same words
use Rattle.std.specs.Prelude.{ℕ, zero, suc, ◌+◌, ◌*◌, Bool, cond, not, ◌&&◌, List, [], ◌++◌, map, eqb, get_or, take, drop, Option, true, false, ◌∷◌}
use Rattle.std.specs.Int.Bits.{bit_and}
use Rattle.residue.specs.Facts.{fact_of}
use Rattle.residue.specs.Residues.{outside}
use Rattle.residue.specs.declared.Outcome.{Outcome}
use Rattle.fields.specs.Widths.{full}
use Rattle.sets.specs.Sets.{set_of, tally}
use Rattle.lists.specs.Filters.{Item, item_of, filters_of}
use Rattle.states.specs.States.{cut_standing, all_left}
use Rattle.slots.specs.Words.{filter_slot}
use Rattle.slots.specs.inner.Words.{out_words, written_filter, written, read_filter}
use Rattle.slots.specs.Asking.{out_mark, question_in}
use Rattle.residue.specs.declared.Test.{Test}

unfoldable pub head_of : List ℕ → ℕ → ℕ
head_of w i = get_or w (filter_slot * i) 0

unfoldable pub held_set : ℕ → List ℕ → ℕ
held_set n w = set_of (tally n (λ i. eqb (head_of w i) 0))

unfoldable pub out_set_in : ℕ → List ℕ → ℕ
out_set_in n w = set_of (tally n (λ i. eqb (head_of w i) out_mark))

unfoldable pub sure_set_in : ℕ → List ℕ → List ℕ → ℕ
sure_set_in n ranks w = set_of (tally n (λ i. eqb (head_of w i) 0 && eqb (outside (get_or ranks i 0) (out_set_in n w)) 0))

-- The filters from number i on, n of them; held is the set of held filters.
unfoldable pub closed_in : ℕ → List ℕ → ℕ → ℕ → List ℕ → List ℕ
closed_in zero ranks held i w = []
closed_in (suc n) ranks held i w =
    cond (eqb (bit_and (get_or ranks i 0) held) 0) (take filter_slot w) out_words ++ closed_in n ranks held (i + 1) (drop filter_slot w)

unfoldable pub closed_words : ℕ → List ℕ → List ℕ → List ℕ
closed_words n ranks w = closed_in n ranks (held_set n w) 0 w

unfoldable pub asks_in : ℕ → List ℕ → Bool
asks_in n w = not (eqb (get_or (question_in n w) 0 0) 0)

unfoldable pub cut_words : ℕ → ℕ → Option Test → List ℕ → List ℕ
cut_words zero f k w = []
cut_words (suc n) f k w = written_filter (cut_standing f k (read_filter (take filter_slot w))) ++ cut_words n f k (drop filter_slot w)

unfoldable pub step_question : ℕ → List ℕ → Outcome → Item → List ℕ → List ℕ
step_question n ranks o q w = closed_words n ranks (cut_words n q.field (fact_of (full q.field) o q.test) w)

unfoldable pub step_words : ℕ → List ℕ → Outcome → List ℕ → List ℕ
step_words n ranks o w = step_question n ranks o (item_of (question_in n w)) w

unfoldable pub start_words : ℕ → List ℕ → List ℕ → List ℕ
start_words n ranks ws = closed_words n ranks (written (map all_left (filters_of ws)))

unfoldable pub same_words : List ℕ → List ℕ → Bool
same_words [] [] = true
same_words [] (b ∷ bs) = false
same_words (a ∷ xs) [] = false
same_words (a ∷ xs) (b ∷ bs) = eqb a b && same_words xs bs
