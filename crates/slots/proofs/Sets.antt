-- Bit sets of filters, made upwards: each turn of the loop puts in one more.
-- Assumes nothing.
use Prim.Native.Nat.{ℕ, ◌+◌, ◌*◌, ◌-◌, ◌^◌, ◌<◌}
use mathlib.Core.Path.{◌≡◌, refl, ap, ap₂, sym, ◌∙◌}
use mathlib.Core.Bool.{◌&&◌}
use mathlib.Core.List.{List}
use native.Mathlib.Nat.{le_refl}
use native.Mathlib.Omega.{arith}
use lib.Bits.{bit_and}
use lib.Dec.{eqb}
use lib.ListN.{get_or}
use Rattle.std.specs.Simd.{first_chunks}
use Rattle.residue.specs.Residues.{outside}
use Rattle.residue.specs.laws.Bits.{and_not}
use Rattle.sets.specs.Sets.{set_bits, bit, set_of, tally}
use Rattle.sets.specs.laws.Members.{tally_put, tally_bound}
use Rattle.slots.specs.Words.{filter_slot}
use Rattle.slots.specs.inner.Slots.{head_of, out_set_in, sure_set_in}
use Rattle.slots.specs.inner.Steps.{marked_set}
use Rattle.slots.specs.Asking.{filters_in}
use Rattle.slots.proofs.Chunks.{chunk_head}

-- ---- marked

pub marked_none : (m : ℕ) (w : List ℕ) → marked_set 0 m w ≡ 0
unfolding marked_set set_of tally
marked_none m w = refl

pub marked_bound : (n m : ℕ) (w : List ℕ) → marked_set n m w < 2 ^ n
unfolding marked_set
marked_bound n m w = tally_bound n n (λ j. eqb (head_of w j) m) (le_refl n)

pub marked_more : (i m : ℕ) (w d : List ℕ) → i < filters_in w → marked_set (i + 1) m w ≡ bit (eqb (get_or (get_or (first_chunks filter_slot (filters_in w) w) i d) 0 0) m) * 2 ^ i + marked_set i m w
unfolding marked_set head_of
marked_more i m w d h =
    tally_put i (λ j. eqb (head_of w j) m) ∙
    ap (λ (x : ℕ). bit (eqb x m) * 2 ^ i + set_of (tally i (λ j. eqb (head_of w j) m))) (sym (chunk_head (filters_in w) i w d h))

pub ruleset filter_marks = (marked_none, marked_bound, marked_more)

-- ---- sure

-- The sure filters among the first n, where out are those that are out.
unfoldable pub sure_among : ℕ → List ℕ → ℕ → List ℕ → ℕ
sure_among n ranks out w = set_of (tally n (λ i. eqb (head_of w i) 0 && eqb (outside (get_or ranks i 0) out) 0))

pub sure_none : (ranks : List ℕ) (out : ℕ) (w : List ℕ) → sure_among 0 ranks out w ≡ 0
unfolding sure_among set_of tally
sure_none ranks out w = refl

pub sure_bound : (n : ℕ) (ranks : List ℕ) (out : ℕ) (w : List ℕ) → sure_among n ranks out w < 2 ^ n
unfolding sure_among
sure_bound n ranks out w = tally_bound n n (λ i. eqb (head_of w i) 0 && eqb (outside (get_or ranks i 0) out) 0) (le_refl n)

-- As the code asks it.
pub sure_more : (i : ℕ) (ranks : List ℕ) (out : ℕ) (w d : List ℕ) → i < filters_in w → get_or ranks i 0 < 2 ^ set_bits → out < 2 ^ set_bits
    → sure_among (i + 1) ranks out w ≡ bit (eqb (get_or (get_or (first_chunks filter_slot (filters_in w) w) i d) 0 0) 0 && eqb (bit_and (get_or ranks i 0) (2 ^ set_bits - 1 - out)) 0) * 2 ^ i + sure_among i ranks out w
unfolding sure_among head_of
sure_more i ranks out w d h g k =
    tally_put i (λ j. eqb (head_of w j) 0 && eqb (outside (get_or ranks j 0) out) 0) ∙
    ap₂ (λ (x y : ℕ). bit (eqb x 0 && eqb y 0) * 2 ^ i + set_of (tally i (λ j. eqb (head_of w j) 0 && eqb (outside (get_or ranks j 0) out) 0)))
    (sym (chunk_head (filters_in w) i w d h))
    (sym (and_not set_bits (2 ^ set_bits - 1) refl (get_or ranks i 0) out (omega arith) (omega arith)))

pub sure_all : (n : ℕ) (ranks w : List ℕ) → sure_set_in n ranks w ≡ sure_among n ranks (out_set_in n w) w
unfolding sure_among sure_set_in
sure_all n ranks w = refl

pub ruleset sure_marks = (sure_none, sure_bound, sure_more, sure_all)
