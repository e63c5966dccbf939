-- How great the numbers in a run of bytes can be, and what stands in a part of one.
use Rattle.std.specs.Prelude.{ℕ, ◌<◌, ◌≤◌, ◌^◌, ◌+◌, ◌-◌, ◌≡◌, refl, Bool, true, false, cond, List, ltb, length, take, drop}
use Rattle.std.proofs.Common.{arith, ◌∙◌, ltb-true, ltb-false, lit<, length-take, get_or-take, get_or-drop, Fits}
use Rattle.std.proofs.Math.ListN.{get_or-eq_default}
use Rattle.std.specs.Int.{w8}
use Rattle.fields.specs.Bytes.{byte, two, four, part, Bytes}

module _ (s : List ℕ) (known : Bytes s) (i : ℕ) where
  pub byte_fits : byte s i < 2 ^ 8
  byte_fits = omega (arith, known i)

  pub two_fits : two s i < 2 ^ 16
  unfolding two
  two_fits = omega (arith, known i, known (i + 1))

pub four_fits : (s : List ℕ) → Bytes s → (i : ℕ) → four s i < 2 ^ 32
unfolding four
four_fits s known i = omega (arith, two_fits s known i, two_fits s known (i + 2))

-- A byte of a run that is cut behind its first k is the whole's, or 0 behind the end.
take_byte : (k : ℕ) (l : List ℕ) (i : ℕ) (b : Bool) → ltb i k ≡ b → byte (take k l) i ≡ cond b (byte l i) 0
take_byte k l i true e = get_or-take k l i 0 (ltb-true i k e)
take_byte k l i false e =
    let cut : length (take k l) ≤ i = omega (arith, length-take k l, ltb-false i k e) in
    get_or-eq_default (take k l) 0 cut

pub part_byte : (s : List ℕ) (a e i : ℕ) → byte (part s a e) i ≡ cond (ltb i (e - a)) (byte s (a + i)) 0
part_byte s a e i = take_byte (e - a) (drop a s) i (ltb i (e - a)) refl ∙ rw (get_or-drop a s i 0)

pub part_bytes : (s : List ℕ) (a e : ℕ) → Bytes s → Bytes (part s a e)
part_bytes s a e known i = rw (part_byte s a e i) (either (ltb i (e - a)) (known (a + i)))
  where
    either : (b : Bool) {x : ℕ} → Fits w8 x → Fits w8 (cond b x 0)
    either true h = h
    either false h = record { fits = lit< tt }
