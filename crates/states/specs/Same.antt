-- Document 01, "States and the table": two states are the same where each filter has the same standing, with the same remaining tests in the same order.
--   same_list e xs ys   as many elements, and e of each two that stand at one place
--   same_item a b       the same kind, field, mask and value
--   same_standing x y   both out, or the same tests
--   same_state s t      the same standings
use Rattle.std.specs.Prelude.{Bool, true, false, ◌&&◌, List, [], ◌∷◌, eqb}
use Rattle.lists.specs.Filters.{Item}
use Rattle.lists.specs.Words.{item_words}
use Rattle.states.specs.States.{Standing, out, left, State}

unfoldable pub same_list : {A : Type 0} → (A → A → Bool) → List A → List A → Bool
same_list e [] [] = true
same_list e [] (y ∷ ys) = false
same_list e (x ∷ xs) [] = false
same_list e (x ∷ xs) (y ∷ ys) = e x y && same_list e xs ys

unfoldable pub same_item : Item → Item → Bool
same_item a b = same_list eqb (item_words a) (item_words b)

unfoldable pub same_standing : Standing → Standing → Bool
same_standing out out = true
same_standing out (left us) = false
same_standing (left ts) out = false
same_standing (left ts) (left us) = same_list same_item ts us

unfoldable pub same_state : State → State → Bool
same_state s t = same_list same_standing s t
