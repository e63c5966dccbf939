-- The zeros below a word's lowest bit are as many as the lowest number in the set says.
use Prim.Native.Nat.{ℕ, zero, suc, ◌+◌, ◌/◌, ◌%◌, ◌^◌, ◌<◌}
use mathlib.Core.Path.{◌≡◌, sym, ap, ◌∙◌}
use mathlib.Core.Bool.{cond}
use native.Mathlib.Nat.{add-zero, div-one}
use native.Mathlib.Numerals.{add-one}
use native.Mathlib.Omega.{arith}
use lib.Count.{count_trailing_zeros, under}
use lib.Dec.{eqb}
use lib.Pow.{shr-shr}
use Rattle.sets.specs.Sets.{member}
use Rattle.lists.specs.Filters.{max_filters}
use Rattle.gateway.specs.Gateway.{lowest_from, lowest_of}

-- The lowest digit r, with t zeros in what stands above it.
by_digit : (r t i l : ℕ) → r < 2 → t + suc i ≡ l → under r t + i ≡ cond (eqb r 1) i l
by_digit zero t i l h e = omega arith
by_digit (suc zero) t i l h e = omega arith
by_digit (suc (suc r)) t i l h e = absurd (omega arith)

zeros_from : (k i s : ℕ) → count_trailing_zeros k (s / 2 ^ i) + i ≡ lowest_from k i s
unfolding count_trailing_zeros lowest_from member
zeros_from zero i s = omega arith
zeros_from (suc k) i s =
    let above : s / 2 ^ i / 2 ≡ s / 2 ^ suc i = shr-shr s i 1 ∙ ap (λ (n : ℕ). s / 2 ^ n) (add-one i) in
    by_digit (s / 2 ^ i % 2) (count_trailing_zeros k (s / 2 ^ i / 2)) i (lowest_from k (suc i) s) (omega arith)
    (ap (λ (n : ℕ). count_trailing_zeros k n + suc i) above ∙ zeros_from k (suc i) s)

pub zeros_lowest : (s : ℕ) → count_trailing_zeros max_filters s ≡ lowest_of s
unfolding lowest_of
zeros_lowest s = ap (count_trailing_zeros max_filters) (sym (div-one s)) ∙ sym (add-zero (count_trailing_zeros max_filters (s / 1))) ∙ zeros_from max_filters 0 s
