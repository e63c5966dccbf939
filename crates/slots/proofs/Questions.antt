-- The first filter that has a test to ask, looked for from the front.
-- Assumes nothing.
use Rattle.std.specs.Prelude.{ℕ, zero, suc, ◌<◌, ◌≡◌, refl, Bool, true, false, not, ◌&&◌, cond, List, [], ◌∷◌, eqb, get_or, take, drop, find, Option, None, Some}
use Rattle.std.specs.Simd.{first_chunks}
use Rattle.std.proofs.Common.{ap, arith}
use Rattle.std.proofs.lemmas.List.{get_or-take}
use Rattle.slots.specs.Words.{filter_slot}
use Rattle.slots.specs.Asking.{out_mark, has_test, four_words, question_in}

-- What is asked where this is the first filter that has a test.
abbrev pub asked_of : Option (List ℕ) → List ℕ
asked_of None = 0 ∷ 0 ∷ 0 ∷ 0 ∷ []
asked_of (Some f) = four_words f

front : (w : List ℕ) (i : ℕ) → i < filter_slot → get_or (take filter_slot w) i 0 ≡ get_or w i 0
front w i h = get_or-take filter_slot w i 0 h

same_test : (w : List ℕ) → has_test (take filter_slot w) ≡ has_test w
unfolding has_test
same_test w = ap (λ (k : ℕ). not (eqb k 0) && not (eqb k out_mark)) (front w 0 (omega arith))

same_four : (w : List ℕ) → four_words (take filter_slot w) ≡ four_words w
unfolding four_words
same_four w = rw (front w 0 (omega arith), front w 1 (omega arith), front w 2 (omega arith), front w 3 (omega arith)) refl

pub question_found : (n : ℕ) (w : List ℕ) → asked_of (find has_test (first_chunks filter_slot n w)) ≡ question_in n w
unfolding question_in
question_found zero w = refl
question_found (suc n) w = rw (← same_test w) (go (has_test (take filter_slot w)) (question_found n (drop filter_slot w)))
  where
    later : Option (List ℕ)
    later = find has_test (first_chunks filter_slot n (drop filter_slot w))

    go : (b : Bool) → asked_of later ≡ question_in n (drop filter_slot w) → asked_of (cond b (Some (take filter_slot w)) later) ≡ cond b (four_words w) (question_in n (drop filter_slot w))
    go true h = same_four w
    go false h = h
