-- A state as the words of one slot: its remaining tests first, four words each, zeros behind; the mark 5 first where a filter is out.
--   items_words ts     the words of tests
--   written_filter x   the words of a standing
--   written s         the words of a state
--   read_filter c      the standing that the words of a filter say, whatever they are
--   read_state n w     the standings that the first n filters' words say
use Rattle.std.specs.Prelude.{ℕ, zero, suc, ◌*◌, ◌-◌, cond, List, [], ◌∷◌, ◌++◌, eqb, length, get_or, take, drop, replicate}
use Rattle.lists.specs.Filters.{Item, max_tests, test_words, item_of}
use Rattle.lists.specs.Words.{item_words}
use Rattle.states.specs.States.{Standing, out, left, State}
use Rattle.slots.specs.Words.{filter_slot}
use Rattle.slots.specs.Asking.{out_mark}

unfoldable pub items_words : List Item → List ℕ
items_words [] = []
items_words (t ∷ ts) = item_words t ++ items_words ts

unfoldable pub out_words : List ℕ
out_words = out_mark ∷ replicate (filter_slot - 1) 0

unfoldable pub written_filter : Standing → List ℕ
written_filter out = out_words
written_filter (left ts) = items_words ts ++ replicate (filter_slot - test_words * length ts) 0

unfoldable pub written : State → List ℕ
written [] = []
written (x ∷ s) = written_filter x ++ written s

-- Tests are read until a kind is 0, at most n of them.
unfoldable pub read_items : ℕ → List ℕ → List Item
read_items zero w = []
read_items (suc n) w = cond (eqb (get_or w 0 0) 0) [] (item_of w ∷ read_items n (drop test_words w))

unfoldable pub read_filter : List ℕ → Standing
read_filter c = cond (eqb (get_or c 0 0) out_mark) out (left (read_items max_tests c))

unfoldable pub read_state : ℕ → List ℕ → State
read_state zero w = []
read_state (suc n) w = read_filter (take filter_slot w) ∷ read_state n (drop filter_slot w)
