-- What an accepted list has: as many filters and tests as were counted, and every test well formed.
--   accepted_count, accepted_well   of the whole list
--   well_few, well_items_lem        of one filter
use Rattle.std.specs.Prelude.{ℕ, zero, suc, ◌+◌, ◌*◌, ◌≤◌, ◌≡◌, refl, Bool, true, false, not, ◌&&◌, List, [], ◌∷◌, leb, eqb, length, drop, Ok}
use Rattle.std.proofs.Common.{zero-lt-suc, arith, ap₂, ◌∙◌, leb-true, lt-ltb, le-leb}
use Rattle.std.specs.Int.Bits.{bit_and}
use Rattle.std.proofs.lemmas.Bool.{not-false}
use Rattle.residue.specs.laws.Choice.{first, second}
use Rattle.residue.specs.inner.Well.{well_masked, well_formed}
use Rattle.fields.specs.Widths.{field_count, full}
use Rattle.lists.specs.declared.TestWords.{TestWords}
use Rattle.lists.specs.Filters.{max_filters, max_tests, head_words, test_words, kind_equal, kind_differs, kind_at_most, kind_at_least, count_word, filter_words, Filter, test_of, item_of, items_of, filter_of, filters_from, filters_of, tests_in}
use Rattle.lists.specs.Words.{words_of}
use Rattle.lists.specs.Refusals.{test_fault, tests_fault, counts, listed_from, listed}
use Rattle.lists.specs.inner.Well.{well_item, well_items, well_filter, well_filters}
use Rattle.lists.specs.laws.Faults.{first_parts, SoundTest, sound_test, NoFault}
use Rattle.lists.specs.laws.Items.{by_kind, length_items}
use Rattle.lists.specs.laws.Walking.{accepted, accepted_one, accepted_head, accepted_rest, accepted_last}

-- ---- one test, one filter

well_masked_lem : (f m v : ℕ) → eqb m 0 ≡ false → m ≤ f → v ≤ f → not (eqb (bit_and v m) v) ≡ false → well_masked f m v ≡ true
unfolding well_masked
well_masked_lem f m v e l h i =
    ap₂ (λ (a b : Bool). not a && b && leb v f && eqb (bit_and v m) v) e (le-leb m f l) ∙
    ap₂ (λ (a b : Bool). a && b) (le-leb v f h) (not-false (eqb (bit_and v m) v) i)

sound_well : (w : TestWords) → SoundTest w → well_formed (full w.field) (test_of w.kind w.mask w.value) ≡ true
unfolding well_formed test_of
sound_well w s =
    by_kind (λ (n : ℕ). SoundTest (record w { kind = n }) → well_formed (full w.field) (test_of n w.mask w.value) ≡ true)
    (λ (t : SoundTest (record w { kind = kind_equal })). well_masked_lem (full w.field) w.mask w.value t.mask t.mask_full t.value_full t.inside)
    (λ (t : SoundTest (record w { kind = kind_differs })). well_masked_lem (full w.field) w.mask w.value t.mask t.mask_full t.value_full t.inside)
    (λ (t : SoundTest (record w { kind = kind_at_most })). le-leb w.value (full w.field) t.value_full)
    (λ (t : SoundTest (record w { kind = kind_at_least })). le-leb w.value (full w.field) t.value_full)
    w.kind s.kind.0 s.kind.1 s

sound_item : (ws : List ℕ) → test_fault (words_of ws) ≡ Ok tt → well_item (item_of ws) ≡ true
unfolding words_of well_item item_of
sound_item ws e =
    let s = sound_test (words_of ws) e in
    ap₂ (λ (a b : Bool). a && b) (lt-ltb (words_of ws).field field_count s.field) (sound_well (words_of ws) s)

sound_items : (n : ℕ) (ws : List ℕ) → tests_fault n ws ≡ Ok tt → well_items (items_of n ws) ≡ true
unfolding tests_fault well_items items_of
sound_items zero ws e = refl
sound_items (suc n) ws e =
    let p = first_parts (test_fault (words_of ws)) (tests_fault n (drop test_words ws)) e in
    ap₂ (λ (a b : Bool). a && b) (sound_item ws p.0) (sound_items n (drop test_words ws) p.1)

no_fault_well : (ws : List ℕ) → NoFault ws → well_filter (filter_of ws) ≡ true
unfolding well_filter filter_of
no_fault_well ws h =
    ap₂ (λ (a b : Bool). a && b)
    (le-leb (length (items_of (count_word ws) (drop head_words ws))) max_tests (rw length_items h.count))
    (sound_items (count_word ws) (drop head_words ws) h.tests)

pub well_few : (f : Filter) → well_filter f ≡ true → length f.tests ≤ max_tests
unfolding well_filter
well_few f e = leb-true (length f.tests) max_tests (first (leb (length f.tests) max_tests) (well_items f.tests) e)

pub well_items_lem : (f : Filter) → well_filter f ≡ true → well_items f.tests ≡ true
unfolding well_filter
well_items_lem f e = second (leb (length f.tests) max_tests) (well_items f.tests) e

-- ---- the whole list

-- The filters from number i on, t tests before them, of a list with a filters and b tests.
record Counted (fs : List Filter) (n i t a b : ℕ) : Type 0 where
  filters : i + length fs ≡ a
  tests : t + tests_in fs ≡ b
  few : length fs ≤ n
  few_tests : tests_in fs ≤ max_tests * length fs
  well : well_filters fs ≡ true

counted_none : (n i t a b : ℕ) → accepted i t ≡ accepted a b → Counted [] n i t a b
unfolding tests_in well_filters
counted_none n i t a b e =
    record {
      filters = omega (arith, (accepted_one i t a b e).0);
      tests = omega (arith, (accepted_one i t a b e).1);
      few = omega arith;
      few_tests = omega arith;
      well = refl;
    }

counted_more : (f : Filter) (fs : List Filter) (n i t a b : ℕ) → length f.tests ≤ max_tests → well_filter f ≡ true → Counted fs n (i + 1) (t + length f.tests) a b → Counted (f ∷ fs) (suc n) i t a b
unfolding tests_in well_filters
counted_more f fs n i t a b l w k =
    record {
      filters = omega (arith, k.filters);
      tests = omega (arith, k.tests);
      few = omega (arith, k.few);
      few_tests = omega (arith, k.few_tests);
      well = ap₂ (λ (p q : Bool). p && q) w k.well;
    }

counted_from : (n i t a b : ℕ) (ws : List ℕ) → listed_from n i t ws ≡ Ok (counts a b) → Counted (filters_from n ws) n i t a b
unfolding filters_from listed_from filter_of
counted_from zero i t a b [] e = counted_none zero i t a b e
counted_from zero i t a b (w ∷ ws) e = absurd (accepted_last i t a b w ws e)
counted_from (suc n) i t a b [] e = counted_none (suc n) i t a b e
counted_from (suc n) i t a b (w ∷ ws) e =
    let h = accepted_head n i t a b (w ∷ ws) (zero-lt-suc (length ws)) e in
    let m = length_items (count_word (w ∷ ws)) (drop head_words (w ∷ ws)) in
    counted_more (filter_of (w ∷ ws)) (filters_from n (drop (filter_words (w ∷ ws)) (w ∷ ws))) n i t a b
    (omega (arith, m, h.count))
    (no_fault_well (w ∷ ws) h)
    (rw m (counted_from n (i + 1) (t + count_word (w ∷ ws)) a b (drop (filter_words (w ∷ ws)) (w ∷ ws)) (accepted_rest n i t a b (w ∷ ws) (zero-lt-suc (length ws)) e)))

pub accepted_count : (ws : List ℕ) (n t : ℕ) → listed ws ≡ Ok (counts n t) → (length (filters_of ws) ≡ n) × (tests_in (filters_of ws) ≡ t) × (n ≤ max_filters) × (t ≤ max_tests * n)
unfolding listed filters_of
accepted_count ws n t e =
    let k = counted_from max_filters 0 0 n t ws e in
    (omega (arith, k.filters), omega (arith, k.tests), omega (arith, k.filters, k.few), omega (arith, k.filters, k.tests, k.few_tests))

pub accepted_well : (ws : List ℕ) (n t : ℕ) → listed ws ≡ Ok (counts n t) → well_filters (filters_of ws) ≡ true
unfolding listed filters_of
accepted_well ws n t e = (counted_from max_filters 0 0 n t ws e).well
