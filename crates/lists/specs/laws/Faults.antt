-- What it means that there is no fault; and faults have the numbers 1 to 9.
--   SoundTest w         a test without a fault, what it has
--   NoFault ws          the words begin with a filter without a fault
--   Faulty c            where the check c refuses, its number is 1 to 9
use Rattle.std.specs.Prelude.{ℕ, zero, suc, ◌+◌, ◌≤◌, ◌<◌, ◌≡◌, refl, Bool, true, false, cond, not, ◌&&◌, ◌||◌, List, [], ◌∷◌, leb, ltb, eqb, length, drop, Ok, Err}
use Rattle.std.proofs.Common.{arith, true≢false, lit<, lit≤, ltb-false, leb-false}
use Rattle.std.specs.Int.Bits.{bit_and}
use Rattle.residue.specs.laws.Choice.{by_cond, neither}
use Rattle.refusals.specs.declared.Refusal.{Refusal}
use Rattle.refusals.specs.Numbers.{number_of}
use Rattle.fields.specs.Widths.{field_count, full}
use Rattle.lists.specs.declared.TestWords.{TestWords}
use Rattle.lists.specs.Filters.{max_filters, max_tests, max_rank, head_words, test_words, kind_at_least, group_word, level_word, count_word, filter_words}
use Rattle.lists.specs.Words.{words_of}
use Rattle.lists.specs.Refusals.{Fault, first_of, masked, test_fault, tests_fault, filter_fault, Listed, unless_faulty, listed_from, listed}

-- ---- no fault

-- Where there is no fault, the one tested first does not hold.
fault_parts : (b : Bool) (r : Refusal) (later : Fault) → cond b (Err r) later ≡ Ok tt → (b ≡ false) × (later ≡ Ok tt)
fault_parts true r later e = absurd (cc)
fault_parts false r later e = (refl, e)

-- Two parts without a fault.
pub first_parts : (x later : Fault) → first_of x later ≡ Ok tt → (x ≡ Ok tt) × (later ≡ Ok tt)
first_parts (Ok u) later e = (refl, e)
first_parts (Err r) later e = absurd (cc)

pub record SoundTest (w : TestWords) : Type 0 where
  pub kind : (1 ≤ w.kind) × (w.kind ≤ kind_at_least)
  pub field : w.field < field_count
  pub mask : cond (masked w.kind) (eqb w.mask 0) (not (eqb w.mask 0)) ≡ false
  pub mask_full : w.mask ≤ full w.field
  pub value_full : w.value ≤ full w.field
  pub inside : (masked w.kind && not (eqb (bit_and w.value w.mask) w.value)) ≡ false

pub sound_test : (w : TestWords) → test_fault w ≡ Ok tt → SoundTest w
unfolding test_fault
sound_test w e =
    let p5 = fault_parts (eqb w.kind 0 || ltb kind_at_least w.kind) _ _ e in
    let p6 = fault_parts (leb field_count w.field) _ _ p5.1 in
    let p7 = fault_parts (cond (masked w.kind) (eqb w.mask 0) (not (eqb w.mask 0))) _ _ p6.1 in
    let p8 = fault_parts (ltb (full w.field) w.mask || ltb (full w.field) w.value) _ _ p7.1 in
    let p9 = fault_parts (masked w.kind && not (eqb (bit_and w.value w.mask) w.value)) _ _ p8.1 in
    let k5 = neither (eqb w.kind 0) (ltb kind_at_least w.kind) p5.0 in
    let k8 = neither (ltb (full w.field) w.mask) (ltb (full w.field) w.value) p8.0 in
    record {
      kind = (positive w.kind k5.0, ltb-false kind_at_least w.kind k5.1);
      field = leb-false field_count w.field p6.0;
      mask = p7.0;
      mask_full = ltb-false (full w.field) w.mask k8.0;
      value_full = ltb-false (full w.field) w.value k8.1;
      inside = p9.0;
    }
  where
    positive : (n : ℕ) → eqb n 0 ≡ false → 1 ≤ n
    positive zero z = absurd (true≢false z)
    positive (suc n) z = omega arith

pub record NoFault (ws : List ℕ) : Type 0 where
  pub head : head_words ≤ length ws
  pub group : group_word ws ≤ max_rank
  pub level : level_word ws ≤ max_rank
  pub count : count_word ws ≤ max_tests
  pub whole : filter_words ws ≤ length ws
  pub tests : tests_fault (count_word ws) (drop head_words ws) ≡ Ok tt

pub no_fault : (ws : List ℕ) → filter_fault ws ≡ Ok tt → NoFault ws
unfolding filter_fault
no_fault ws e =
    let p = fault_parts (ltb (length ws) head_words) _ _ e in
    let q = fault_parts (ltb max_rank (group_word ws) || ltb max_rank (level_word ws)) _ _ p.1 in
    let r = fault_parts (ltb max_tests (count_word ws)) _ _ q.1 in
    let s = fault_parts (ltb (length ws) (filter_words ws)) _ _ r.1 in
    let o = neither (ltb max_rank (group_word ws)) (ltb max_rank (level_word ws)) q.0 in
    record {
      head = ltb-false (length ws) head_words p.0;
      group = ltb-false max_rank (group_word ws) o.0;
      level = ltb-false max_rank (level_word ws) o.1;
      count = ltb-false max_tests (count_word ws) r.0;
      whole = ltb-false (length ws) (filter_words ws) s.0;
      tests = s.1;
    }

-- ---- the numbers

abbrev pub Faulty : Listed → Type 0
Faulty (Ok c) = Unit {0}
Faulty (Err e) = (0 < number_of e.refusal) × (number_of e.refusal ≤ 9)

-- The same of one fault.
abbrev FaultyPart : Fault → Type 0
FaultyPart (Ok u) = Unit {0}
FaultyPart (Err r) = (0 < number_of r) × (number_of r ≤ 9)

test_faulty : (w : TestWords) → FaultyPart (test_fault w)
unfolding test_fault number_of
test_faulty w =
    by_cond FaultyPart (eqb w.kind 0 || ltb kind_at_least w.kind) (λ _. (lit< tt, lit≤ tt)) (λ _.
    by_cond FaultyPart (leb field_count w.field) (λ _. (lit< tt, lit≤ tt)) (λ _.
    by_cond FaultyPart (cond (masked w.kind) (eqb w.mask 0) (not (eqb w.mask 0))) (λ _. (lit< tt, lit≤ tt)) (λ _.
    by_cond FaultyPart (ltb (full w.field) w.mask || ltb (full w.field) w.value) (λ _. (lit< tt, lit≤ tt)) (λ _.
    by_cond FaultyPart (masked w.kind && not (eqb (bit_and w.value w.mask) w.value)) (λ _. (lit< tt, lit≤ tt)) (λ _. tt)))))

first_faulty : (x later : Fault) → FaultyPart x → FaultyPart later → FaultyPart (first_of x later)
first_faulty (Ok u) later p q = q
first_faulty (Err r) later p q = p

tests_faulty : (n : ℕ) (ws : List ℕ) → FaultyPart (tests_fault n ws)
unfolding tests_fault
tests_faulty zero ws = tt
tests_faulty (suc n) ws =
    first_faulty (test_fault (words_of ws)) (tests_fault n (drop test_words ws)) (test_faulty (words_of ws)) (tests_faulty n (drop test_words ws))

filter_faulty : (ws : List ℕ) → FaultyPart (filter_fault ws)
unfolding filter_fault number_of
filter_faulty ws =
    by_cond FaultyPart (ltb (length ws) head_words) (λ _. (lit< tt, lit≤ tt)) (λ _.
    by_cond FaultyPart (ltb max_rank (group_word ws) || ltb max_rank (level_word ws)) (λ _. (lit< tt, lit≤ tt)) (λ _.
    by_cond FaultyPart (ltb max_tests (count_word ws)) (λ _. (lit< tt, lit≤ tt)) (λ _.
    by_cond FaultyPart (ltb (length ws) (filter_words ws)) (λ _. (lit< tt, lit≤ tt)) (λ _. tests_faulty (count_word ws) (drop head_words ws)))))

placed_faulty : (i : ℕ) (x : Fault) (later : Listed) → FaultyPart x → Faulty later → Faulty (unless_faulty i x later)
placed_faulty i (Ok u) later p q = q
placed_faulty i (Err r) later p q = p

from_faulty : (n i k : ℕ) (ws : List ℕ) → Faulty (listed_from n i k ws)
unfolding listed_from number_of
from_faulty zero i k [] = tt
from_faulty zero i k (w ∷ ws) = (lit< tt, lit≤ tt)
from_faulty (suc n) i k [] = tt
from_faulty (suc n) i k (w ∷ ws) =
    placed_faulty i (filter_fault (w ∷ ws)) _ (filter_faulty (w ∷ ws))
    (from_faulty n (i + 1) (k + count_word (w ∷ ws)) (drop (filter_words (w ∷ ws)) (w ∷ ws)))

pub listed_faulty : (ws : List ℕ) → Faulty (listed ws)
unfolding listed
listed_faulty ws = from_faulty max_filters 0 0 ws
