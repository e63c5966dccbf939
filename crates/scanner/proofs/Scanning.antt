-- A filter's tests asked in turn, and the filters of a list.
use Rattle.std.specs.Prelude.{ℕ, zero, suc, ◌+◌, ◌*◌, ◌<◌, ◌≡◌, refl, Bool, ◌&&◌, ◌||◌, List, length, get_or, drop, false, Option, None, Some, MatchOption}
use Rattle.std.proofs.Common.{sym, ap, ◌∙◌, add-zero, zero-add, add-one, arith, drop-drop, lt-ltb}
use Rattle.std.proofs.Math.Seq.{get_or-drop}
use Rattle.std.proofs.Math.Bool.{or-false, or_assoc}
use Rattle.std.specs.List.{range_with_len, list_any, list_all}
use Rattle.sets.specs.Sets.{some}
use Rattle.residue.specs.declared.Test.{Test}
use Rattle.residue.specs.Tests.{holds, holds_of}
use Rattle.lists.specs.Filters.{test_words, Filter, item_of, items_of, filter_of, filters_of}
use Rattle.lists.specs.Ranks.{no_filter, tests_of, all_hold, fires}
use Rattle.lists.specs.laws.Walking.{Rest, rest_below, rest_filter}

-- A test holds of a reading where it holds of its value.
pub held_by : (t : Test) (o : Option ℕ) (b : Bool) (P : ℕ → Type 0) → MatchOption o (b ≡ false) P → ((x : ℕ) → P x → b ≡ holds t x) → b ≡ holds_of t o
unfolding holds_of
held_by t None b P h f = h
held_by t (Some x) b P h f = f x h

-- A test of a number below n, as the library asks it of each in turn.
some_from : (p : ℕ → Bool) (a n : ℕ) → some (a + n) p ≡ (some a p || list_any p (range_with_len a n))
unfolding some
some_from p a zero = ap (λ (k : ℕ). some k p) (add-zero a) ∙ sym (or-false (some a p))
some_from p a (suc n) =
    let z : a + suc n ≡ suc a + n = omega arith in
    ap (λ (k : ℕ). some k p) z ∙ some_from p (suc a) n ∙ or_assoc (some a p) (p a) (list_any p (range_with_len (suc a) n)) ∙
    ap (λ (k : ℕ). some a p || (p a || list_any p (range_with_len k n))) (sym (add-one a))

pub some_range : (p : ℕ → Bool) (n : ℕ) → list_any p (range_with_len 0 n) ≡ some n p
unfolding some
some_range p n = sym (some_from p 0 n) ∙ ap (λ (k : ℕ). some k p) (zero-add n)

module _ (r : ℕ → Option ℕ) where
  -- The test that begins at a place holds.
  abbrev pub here : List ℕ → ℕ → Bool
  here ws at = holds_of (item_of (drop at ws)).test (r (item_of (drop at ws)).field)

  tests_from : (ws : List ℕ) (at a n : ℕ) → list_all (λ j. here ws (at + test_words * j)) (range_with_len a n) ≡ all_hold r (items_of n (drop (at + test_words * a) ws))
  unfolding all_hold items_of
  tests_from ws at a zero = refl
  tests_from ws at a (suc n) =
      let z : at + test_words * a + test_words ≡ at + test_words * (a + 1) = omega arith in
      ap (λ (b : Bool). here ws (at + test_words * a) && b)
      (tests_from ws at (a + 1) n ∙ ap (λ (xs : List ℕ). all_hold r (items_of n xs)) (ap (λ (k : ℕ). drop k ws) (sym z) ∙ sym (drop-drop test_words (at + test_words * a) ws)))

  -- All tests of a run hold, asked in turn.
  pub tests_range : (ws : List ℕ) (at n : ℕ) → list_all (λ j. here ws (at + test_words * j)) (range_with_len 0 n) ≡ all_hold r (items_of n (drop at ws))
  tests_range ws at n = tests_from ws at 0 n ∙ ap (λ (k : ℕ). all_hold r (items_of n (drop k ws))) (add-zero at)

  -- The filter that what is left of an accepted list begins with.
  pub fires_here : (ws : List ℕ) (n i : ℕ) (rest : List ℕ) → length (filters_of ws) ≡ n → Rest ws n i rest → 0 < length rest → all_hold r (filter_of rest).tests ≡ fires (filters_of ws) r i
  unfolding fires
  fires_here ws n i rest e h l =
      let fs = filters_of ws in
      let f : get_or fs i no_filter ≡ filter_of rest =
      ap (λ (j : ℕ). get_or fs j no_filter) (sym (add-zero i)) ∙ sym (get_or-drop i fs 0 no_filter) ∙ ap (λ (xs : List Filter). get_or xs 0 no_filter) (rest_filter ws n i rest h l) in
      ap (λ (g : Filter). all_hold r g.tests) (sym f) ∙ ap (λ (b : Bool). b && all_hold r (tests_of fs i)) (sym (lt-ltb i (length fs) (omega (arith, e, rest_below ws n i rest h l))))
