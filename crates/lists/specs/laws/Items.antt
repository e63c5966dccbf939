-- A test and its words: each is read back from the other; and the kinds of tests.
--   by_kind                    what holds of each of the four kinds holds of all between them
--   kind_some, kind_known      no test has kind 0, nor a kind behind the last
--   test_round, item_round     a test is read back from its words
--   words_list, list_words     the words read from a list, and the list made of words
--   words_round                four words without a fault are those of the test that they mean
--   items_turn, items_end      a filter's tests from one place on: one and the rest; none
use Rattle.std.specs.Prelude.{ℕ, zero, suc, ◌+◌, ◌-◌, ◌*◌, ◌≤◌, ◌<◌, ◌≡◌, refl, false, not, List, [], ◌∷◌, ltb, eqb, length, take, drop, Ok}
use Rattle.std.proofs.Common.{arith, sym, ap, ◌∙◌, drop-drop, eqb-true}
use Rattle.std.proofs.lemmas.Bool.{not-false}
use Rattle.residue.specs.declared.Test.{Test}
use Rattle.residue.specs.declared.Test.TheVariants.{Equal, Differs, AtMost, AtLeast}
use Rattle.lists.specs.declared.TestWords.{TestWords}
use Rattle.lists.specs.Filters.{test_words, kind_equal, kind_differs, kind_at_most, kind_at_least, Item, test_of, item_of, items_of}
use Rattle.lists.specs.Words.{kind_of, mask_of, value_of, item_words, test_list, words_of}
use Rattle.lists.specs.Refusals.{test_fault}
use Rattle.lists.specs.laws.Faults.{SoundTest, sound_test}

-- ---- kinds

pub by_kind : (P : ℕ → Type 0) → P kind_equal → P kind_differs → P kind_at_most → P kind_at_least → (k : ℕ) → kind_equal ≤ k → k ≤ kind_at_least → P k
by_kind P a b c d zero l h = absurd (omega arith)
by_kind P a b c d (suc zero) l h = a
by_kind P a b c d (suc (suc zero)) l h = b
by_kind P a b c d (suc (suc (suc zero))) l h = c
by_kind P a b c d (suc (suc (suc (suc zero)))) l h = d
by_kind P a b c d (suc (suc (suc (suc (suc k))))) l h = absurd (omega arith)

pub kind_some : (t : Test) → eqb (kind_of t) 0 ≡ false
unfolding kind_of
kind_some (Equal m v) = refl
kind_some (Differs m v) = refl
kind_some (AtMost v) = refl
kind_some (AtLeast v) = refl

pub kind_known : (t : Test) → ltb kind_at_least (kind_of t) ≡ false
unfolding kind_of
kind_known (Equal m v) = refl
kind_known (Differs m v) = refl
kind_known (AtMost v) = refl
kind_known (AtLeast v) = refl

-- ---- a test and its words

pub test_round : (t : Test) → test_of (kind_of t) (mask_of t) (value_of t) ≡ t
unfolding test_of kind_of mask_of value_of
test_round (Equal m v) = refl
test_round (Differs m v) = refl
test_round (AtMost v) = refl
test_round (AtLeast v) = refl

pub item_round : (it : Item) → item_of (item_words it) ≡ it
unfolding item_of item_words
item_round it = ap (λ (t : Test). record { field = it.field; test = t }) (test_round it.test)

not_zero : (m : ℕ) → not (eqb m 0) ≡ false → m ≡ 0
not_zero m e = eqb-true m 0 (not-false (eqb m 0) e)

-- The item that the words mean.
abbrev meant : TestWords → Item
meant w = record { field = w.field; test = test_of w.kind w.mask w.value }

-- The words with another kind.
abbrev with_kind : ℕ → TestWords → TestWords
with_kind k w = record w { kind = k }

four_words_lem : (w : TestWords) → SoundTest w → item_words (meant w) ≡ test_list w
unfolding item_words kind_of mask_of value_of test_of
four_words_lem w s =
    by_kind (λ (n : ℕ). SoundTest (with_kind n w) → item_words (meant (with_kind n w)) ≡ test_list (with_kind n w))
    (λ (_ : SoundTest (with_kind kind_equal w)). refl)
    (λ (_ : SoundTest (with_kind kind_differs w)). refl)
    (λ (t : SoundTest (with_kind kind_at_most w)). ap (λ (x : ℕ). kind_at_most ∷ w.field ∷ x ∷ w.value ∷ []) (sym (not_zero w.mask t.mask)))
    (λ (t : SoundTest (with_kind kind_at_least w)). ap (λ (x : ℕ). kind_at_least ∷ w.field ∷ x ∷ w.value ∷ []) (sym (not_zero w.mask t.mask)))
    w.kind s.kind.0 s.kind.1 s

pub list_words : (w : TestWords) → words_of (test_list w) ≡ w
unfolding words_of
list_words w = refl

pub words_list : (ws : List ℕ) → test_words ≤ length ws → test_list (words_of ws) ≡ take test_words ws
unfolding words_of
words_list [] l = absurd (omega arith)
words_list (a ∷ []) l = absurd (omega arith)
words_list (a ∷ b ∷ []) l = absurd (omega arith)
words_list (a ∷ b ∷ c ∷ []) l = absurd (omega arith)
words_list (a ∷ b ∷ c ∷ d ∷ ws) l = refl

pub words_round : (ws : List ℕ) → test_words ≤ length ws → test_fault (words_of ws) ≡ Ok tt → item_words (item_of ws) ≡ take test_words ws
unfolding words_of item_of
words_round ws l e = four_words_lem (words_of ws) (sound_test (words_of ws) e) ∙ words_list ws l

-- ---- a filter's tests, one after the other

pub length_items : (n : ℕ) (ws : List ℕ) → length (items_of n ws) ≡ n
unfolding items_of
length_items zero ws = refl
length_items (suc n) ws = ap suc (length_items n (drop test_words ws))

pub items_turn : (ws : List ℕ) (at count j : ℕ) → j < count →
    items_of (count - j) (drop (at + test_words * j) ws) ≡ item_of (drop (at + test_words * j) ws) ∷ items_of (count - (j + 1)) (drop (at + test_words * (j + 1)) ws)
unfolding items_of
items_turn ws at count j l =
    let z : count - j ≡ suc (count - (j + 1)) = omega arith in
    let y : at + test_words * j + test_words ≡ at + test_words * (j + 1) = omega arith in
    rw z (ap (λ (x : List ℕ). item_of (drop (at + test_words * j) ws) ∷ items_of (count - (j + 1)) x) (drop-drop test_words (at + test_words * j) ws ∙ ap (λ (k : ℕ). drop k ws) y))

pub items_end : (ws : List ℕ) (count j : ℕ) → count ≤ j → items_of (count - j) ws ≡ []
unfolding items_of
items_end ws count j l = let z : count - j ≡ 0 = omega arith in rw z
