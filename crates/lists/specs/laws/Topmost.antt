-- A filter matches exactly where it fires and none that ranks above it does; and of the filters that fire, one that no other ranks above is found from each.
--   Top fs r m i k     filter k fires, is i or ranks above it, and none below number m that fires ranks above k
--   topmost            where i fires there is such a k, for each m
--   matches_fires, matches_top, top_matches   matching, taken apart and put together
--   alone_matches      a filter of group 0 matches where it fires
--   member_match       the match set by its members
use Rattle.std.specs.Prelude.{ℕ, zero, suc, ◌<◌, ◌≡◌, refl, ◌⊎◌, Bool, true, ◌&&◌, List, ltb, length, Option}
use Rattle.std.proofs.Common.{ap, subst, inl, inr, ⊎_elim, not-suc-le-zero, eq-or-lt_of_le, le_of_suc-le-suc}
use Rattle.std.proofs.Math.Bool.{not}
use borrow.Author.Tests.{ltb-true, not-true}
use Rattle.residue.specs.laws.Choice.{same_bool, never, both, first, second, by_test, clash}
use Rattle.sets.specs.Sets.{some, member}
use Rattle.sets.specs.laws.Members.{some_true, some_none, member_tally}
use Rattle.lists.specs.Filters.{Filter}
use Rattle.lists.specs.Ranks.{group_of, tests_of, above, all_hold, fires, matches, match_set}
use Rattle.lists.specs.laws.Ranking.{alone_below, above_irreflexive, above_transitive}

pub record Top (fs : List Filter) (r : ℕ → Option ℕ) (m i k : ℕ) : Type 0 where
  pub fired : fires fs r k ≡ true
  pub over : (k ≡ i) ⊎ (above fs k i ≡ true)
  pub best : (j : ℕ) → j < m → above fs j k ≡ true → fires fs r j ≡ true → ⊥

module _ (fs : List Filter) (r : ℕ → Option ℕ) where
  pub fires_below : (i : ℕ) → fires fs r i ≡ true → i < length fs
  unfolding fires
  fires_below i e = ltb-true i (length fs) (first (ltb i (length fs)) (all_hold r (tests_of fs i)) e)

  abbrev betters : ℕ → Bool
  betters i = some (length fs) (λ j. above fs j i && fires fs r j)

  pub matches_fires : (i : ℕ) → matches fs r i ≡ true → fires fs r i ≡ true
  unfolding matches
  matches_fires i e = first (fires fs r i) (not (betters i)) e

  -- No filter that ranks above one that matches fires.
  pub matches_top : (i : ℕ) → matches fs r i ≡ true → (j : ℕ) → above fs j i ≡ true → fires fs r j ≡ true → ⊥
  unfolding matches
  matches_top i e j a f =
      clash (betters i)
      (some_true (length fs) (λ k. above fs k i && fires fs r k) j (fires_below j f) (both (above fs j i) (fires fs r j) a f))
      (not-true (betters i) (second (fires fs r i) (not (betters i)) e))

  pub top_matches : (i : ℕ) → fires fs r i ≡ true → ((j : ℕ) → above fs j i ≡ true → fires fs r j ≡ true → ⊥) → matches fs r i ≡ true
  unfolding matches
  top_matches i e h =
      both (fires fs r i) (not (betters i)) e
      (ap not
      (some_none (length fs) (λ j. above fs j i && fires fs r j)
      (λ j _. never (above fs j i && fires fs r j) (λ z. h j (first (above fs j i) (fires fs r j) z) (second (above fs j i) (fires fs r j) z)))))

  pub alone_matches : (i : ℕ) → group_of fs i ≡ 0 → matches fs r i ≡ fires fs r i
  alone_matches i z =
      same_bool (matches fs r i) (fires fs r i) (matches_fires i) (λ e. top_matches i e (λ j a _. clash (above fs j i) a (alone_below fs j i z)))

  pub member_match : (i : ℕ) → member i (match_set fs r) ≡ (ltb i (length fs) && matches fs r i)
  unfolding match_set
  member_match i = member_tally (length fs) (λ j. matches fs r j) i

  -- ---- the topmost filter that fires

  over_over : (i j k : ℕ) → above fs k j ≡ true → (j ≡ i) ⊎ (above fs j i ≡ true) → above fs k i ≡ true
  over_over i j k a (inl e) = subst (λ (n : ℕ). above fs k n ≡ true) e a
  over_over i j k a (inr b) = above_transitive fs k j i a b

  climb : (m i k : ℕ) → Top fs r m i k → (k' : ℕ) × Top fs r (suc m) i k'
  climb m i k t =
      by_test ((k' : ℕ) × Top fs r (suc m) i k') (above fs m k && fires fs r m)
      (λ e.
      let a = first (above fs m k) (fires fs r m) e in (
        m,
        record {
          fired = second (above fs m k) (fires fs r m) e;
          over = inr (over_over i k m a t.over);
          best = λ j l b f. ⊎_elim
              (λ (z : j ≡ m). clash (above fs m m) (subst (λ (n : ℕ). above fs n m ≡ true) z b) (above_irreflexive fs m))
              (λ (z : j < m). t.best j z (above_transitive fs j m k b a) f)
              (eq-or-lt_of_le (le_of_suc-le-suc l));
        },
      ))
      (λ e. (
        k,
        record {
          fired = t.fired;
          over = t.over;
          best = λ j l b f. ⊎_elim
              (λ (z : j ≡ m). clash (above fs m k && fires fs r m)
              (both (above fs m k) (fires fs r m) (subst (λ (n : ℕ). above fs n k ≡ true) z b) (subst (λ (n : ℕ). fires fs r n ≡ true) z f)) e)
              (λ (z : j < m). t.best j z b f)
              (eq-or-lt_of_le (le_of_suc-le-suc l));
        },
      ))

  pub topmost : (m i : ℕ) → fires fs r i ≡ true → (k : ℕ) × Top fs r m i k
  topmost zero i e = (i, record { fired = e; over = inl refl; best = λ j l b f. not-suc-le-zero l })
  topmost (suc m) i e = let t = topmost m i e in climb m i t.0 t.1
