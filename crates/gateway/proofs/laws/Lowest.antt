-- The number of the lowest-numbered filter of a set.
--   lowest_is      a filter of the set, with none below it
--   lowest_none    behind the filters where the set is empty
--   lowest_below   the place of a tally, whatever the set
use Prim.Native.Nat.{ℕ, zero, suc, ◌+◌, ◌≤◌, ◌<◌}
use native.Mathlib.Omega.{arith}
use Rattle.std.specs.Prelude.{◌≡◌, true, false, eqb}
use Rattle.std.proofs.Common.{sym, subst}
use borrow.Author.Tests.{eqb-true, eqb-false}
use Rattle.residue.specs.laws.Choice.{by_test, by_cond}
use Rattle.sets.specs.Sets.{member}
use Rattle.lists.specs.Filters.{max_filters}
use Rattle.gateway.specs.Gateway.{tally_count, lowest_from, lowest_of}

module _ (s : ℕ) where
  from_first :
      (k i j : ℕ) → i ≤ j → j < i + k → member j s ≡ true → ((h : ℕ) → h < j → member h s ≡ false) → lowest_from k i s ≡ j
  unfolding lowest_from
  from_first zero i j l m e none = absurd (omega arith)
  from_first (suc k) i j l m e none =
      by_test (lowest_from (suc k) i s ≡ j) (eqb i j)
      (λ t. rw (subst (λ (n : ℕ). member n s ≡ true) (sym (eqb-true i j t)) e) (eqb-true i j t))
      (λ t. let before : i < j = omega (arith, eqb-false i j t) in rw (none i before) (from_first k (suc i) j (omega arith) (omega arith) e none))

  from_none : (k i : ℕ) → ((h : ℕ) → member h s ≡ false) → lowest_from k i s ≡ i + k
  unfolding lowest_from
  from_none zero i none = omega arith
  from_none (suc k) i none = rw (none i) (omega (arith, from_none k (suc i) none))

  from_le : (k i : ℕ) → lowest_from k i s ≤ i + k
  unfolding lowest_from
  from_le zero i = omega arith
  from_le (suc k) i = by_cond (λ (n : ℕ). n ≤ i + suc k) (member i s) (λ _. omega arith) (λ _. omega (arith, from_le k (suc i)))

  pub lowest_is : (i : ℕ) → i < max_filters → member i s ≡ true → ((j : ℕ) → j < i → member j s ≡ false) → lowest_of s ≡ i
  unfolding lowest_of
  lowest_is i l e none = from_first max_filters 0 i (omega arith) (omega arith) e none

  pub lowest_none : ((j : ℕ) → member j s ≡ false) → lowest_of s ≡ max_filters
  unfolding lowest_of
  lowest_none none = from_none max_filters 0 none

  pub lowest_below : lowest_of s < tally_count
  unfolding lowest_of
  lowest_below = omega (arith, from_le max_filters 0)
