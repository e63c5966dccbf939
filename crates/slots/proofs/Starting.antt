-- The start of an accepted list: each filter's tests in front, zeros behind, one filter after the other.
-- Assumes nothing.
use Prim.Native.Nat.{ℕ, zero, suc, ◌+◌, ◌*◌, ◌-◌, ◌≤◌, ◌<◌}
use mathlib.Core.Path.{◌≡◌, refl, sym, ap, ap₂, ◌∙◌}
use mathlib.Core.List.{List, [], ◌++◌, map}
use native.Mathlib.Omega.{arith}
use borrow.Rule.Slice.PartMut.{put_mid}
use lib.ListN.{length, take, drop, replicate, length-drop}
use lib.Seq.{take-add}
use Rattle.std.specs.Prelude.{Ok}
use Rattle.lists.specs.Filters.{Item, Filter, head_words, test_words, count_word, items_of, filter_of, filters_of}
use Rattle.lists.specs.Refusals.{test_fault, tests_fault}
use Rattle.lists.specs.Words.{words_of}
use Rattle.lists.specs.laws.Faults.{first_parts}
use Rattle.lists.specs.laws.Items.{words_round}
use Rattle.lists.specs.laws.Walking.{Rest, rest_sound, rest_below, rest_filter, rest_end}
use Rattle.states.specs.States.{left, all_left}
use Rattle.slots.specs.Words.{filter_slot}
use Rattle.slots.specs.inner.Words.{items_words, written_filter, written}
use Rattle.slots.specs.laws.Reading.{length_items_words}
use Rattle.slots.proofs.Cutting.{zeros}
use Rattle.slots.proofs.Parts.{turn}

-- ---- one filter

-- The words of tests without a fault are those that the tests have.
items_kept : (n : ℕ) (ws : List ℕ) → test_words * n ≤ length ws → tests_fault n ws ≡ Ok tt → take (test_words * n) ws ≡ items_words (items_of n ws)
unfolding tests_fault items_of items_words
items_kept zero ws l e = refl
items_kept (suc n) ws l e =
    let parts = first_parts (test_fault (words_of ws)) (tests_fault n (drop test_words ws)) e in
    let both : test_words * suc n ≡ test_words + test_words * n = omega arith in
    ap (λ (k : ℕ). take k ws) both ∙ take-add test_words (test_words * n) ws ∙
    ap₂ (λ (x y : List ℕ). x ++ y) (sym (words_round ws (omega arith) parts.0))
    (items_kept n (drop test_words ws) (omega (arith, length-drop test_words ws)) parts.1)

-- ---- all filters

-- The filter that the words r begin with, number i of an accepted list.
module _ (list : List ℕ) (n i : ℕ) (r : List ℕ) (here : Rest list n i r) (h : 0 < length r) where
  -- The words of its tests, and the tests.
  abbrev words : List ℕ
  words = take (test_words * count_word r) (drop head_words r)

  abbrev tests : List Item
  tests = items_of (count_word r) (drop head_words r)

  kept : words ≡ items_words tests
  kept =
      let sound = rest_sound list n i r here h in
      items_kept (count_word r) (drop head_words r) (omega (arith, length-drop head_words r, sound.whole)) sound.tests

  -- The words of the tests in front of zeros are what is written of the filter.
  filter_start : (ws : List ℕ) → ws ≡ words → ws ++ replicate (filter_slot - length ws) 0 ≡ written_filter (left tests)
  unfolding written_filter
  filter_start ws e =
      ap (λ (x : List ℕ). x ++ replicate {A = ℕ} (filter_slot - length x) 0) (e ∙ kept) ∙
      ap (λ (x : List ℕ). items_words tests ++ x) (zeros (filter_slot - length (items_words tests)) (filter_slot - test_words * length tests) (omega (arith, length_items_words tests)))

  filters_here : written (map all_left (drop i (filters_of list))) ≡ written_filter (left tests) ++ written (map all_left (drop (i + 1) (filters_of list)))
  unfolding written all_left filter_of
  filters_here = ap (λ (fs : List Filter). written (map all_left fs)) (rest_filter list n i r here h)

  pub fill_turn : (w p ws W : List ℕ) → length w ≡ filter_slot * n → length p ≡ filter_slot → ws ≡ words → p ≡ ws ++ replicate (filter_slot - length ws) 0
      → take (filter_slot * i) w ++ written (map all_left (drop i (filters_of list))) ≡ W
      → take (filter_slot * (i + 1)) (put_mid (filter_slot * i) (filter_slot * i + filter_slot - filter_slot * i) w p) ++ written (map all_left (drop (i + 1) (filters_of list))) ≡ W
  fill_turn w p ws W l m e q inv =
      let others = written (map all_left (drop (i + 1) (filters_of list))) in
      let more : i < n = rest_below list n i r here h in
      turn i w p (omega arith) m others W
      (ap (λ (x : List ℕ). take (filter_slot * i) w ++ (x ++ others)) (q ∙ filter_start ws e) ∙ ap (λ (x : List ℕ). take (filter_slot * i) w ++ x) (sym filters_here) ∙ inv)

pub fill_end : (list : List ℕ) (n i : ℕ) (r : List ℕ) → Rest list n i r → r ≡ [] → (i ≡ n) × (written (map all_left (drop i (filters_of list))) ≡ [])
unfolding written
fill_end list n i r here e =
    let e' = rest_end list n i r here e in
    (e'.0, ap (λ (fs : List Filter). written (map all_left fs)) e'.1)
