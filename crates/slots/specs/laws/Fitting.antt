-- States that fit a slot: no filter has more remaining tests than there is room for. The start of an accepted list fits, and each step keeps it so.
--   fits_standing x, fits_slot s   at most 8 tests remain, of one filter and of each
use Rattle.std.specs.Prelude.{ℕ, ◌+◌, ◌≤◌, ◌≡◌, refl, Bool, true, cond, ◌&&◌, List, [], ◌∷◌, map, leb, length, Option}
use Rattle.std.proofs.Common.{arith, leb-true, le-leb}
use Rattle.residue.specs.laws.Choice.{both, first, second}
use Rattle.residue.specs.declared.Outcome.{Outcome}
use Rattle.lists.specs.Filters.{Item, Filter, max_tests}
use Rattle.lists.specs.inner.Well.{well_filter, well_filters}
use Rattle.lists.specs.laws.Accepted.{well_few}
use Rattle.states.specs.States.{Standing, out, State, cut_standing, beaten, closed_from, closed, all_left, start, step_by}
use Rattle.states.specs.inner.Remaining.{remaining_in}
use Rattle.states.proofs.laws.Measure.{cut_standing_le, closed_le}
use Rattle.residue.specs.declared.Test.{Test}

unfoldable pub fits_standing : Standing → Bool
fits_standing x = leb (remaining_in x) max_tests

unfoldable pub fits_slot : State → Bool
fits_slot [] = true
fits_slot (x ∷ s) = fits_standing x && fits_slot s

-- ---- one filter

pub fits_le : (x : Standing) → fits_standing x ≡ true → remaining_in x ≤ max_tests
unfolding fits_standing
fits_le x e = leb-true (remaining_in x) max_tests e

le_fits : (x y : Standing) → remaining_in x ≤ remaining_in y → fits_standing y ≡ true → fits_standing x ≡ true
unfolding fits_standing
le_fits x y l e = le-leb (remaining_in x) max_tests (omega (arith, leb-true (remaining_in y) max_tests e))

-- ---- all filters

pub fits_cut : (n : ℕ) (k : Option Test) (s : State) → fits_slot s ≡ true → fits_slot (map (cut_standing n k) s) ≡ true
unfolding fits_slot
fits_cut n k [] e = refl
fits_cut n k (x ∷ s) e =
    both (fits_standing (cut_standing n k x)) (fits_slot (map (cut_standing n k) s))
    (le_fits (cut_standing n k x) x (cut_standing_le n k x) (first (fits_standing x) (fits_slot s) e)) (fits_cut n k s (second (fits_standing x) (fits_slot s) e))

fits_from : (fs : List Filter) (s : State) (i : ℕ) (xs : State) → fits_slot xs ≡ true → fits_slot (closed_from fs s i xs) ≡ true
unfolding fits_slot closed_from
fits_from fs s i [] e = refl
fits_from fs s i (x ∷ xs) e =
    both (fits_standing (cond (beaten fs s i) out x)) (fits_slot (closed_from fs s (i + 1) xs))
    (le_fits (cond (beaten fs s i) out x) x (closed_le x (beaten fs s i)) (first (fits_standing x) (fits_slot xs) e)) (fits_from fs s (i + 1) xs (second (fits_standing x) (fits_slot xs) e))

pub fits_closed : (fs : List Filter) (s : State) → fits_slot s ≡ true → fits_slot (closed fs s) ≡ true
unfolding closed
fits_closed fs s e = fits_from fs s 0 s e

pub fits_step : (fs : List Filter) (o : Outcome) (q : Item) (s : State) → fits_slot s ≡ true → fits_slot (step_by fs o q s) ≡ true
unfolding step_by
fits_step fs o q s e = fits_closed fs _ (fits_cut _ _ s e)

pub fits_all : (fs : List Filter) → well_filters fs ≡ true → fits_slot (map all_left fs) ≡ true
unfolding fits_slot fits_standing all_left remaining_in well_filters
fits_all [] e = refl
fits_all (f ∷ fs) e =
    both (leb (length f.tests) max_tests) (fits_slot (map all_left fs))
    (le-leb (length f.tests) max_tests (well_few f (first (well_filter f) (well_filters fs) e))) (fits_all fs (second (well_filter f) (well_filters fs) e))

pub fits_start : (fs : List Filter) → well_filters fs ≡ true → fits_slot (start fs) ≡ true
unfolding start
fits_start fs e = fits_closed fs (map all_left fs) (fits_all fs e)
