-- What a state that tells the truth says of the match set: sure filters match, out filters do not, and at a final state nothing else is left.
--   Shut fs s          every filter that ranks below a held one is out
use Rattle.std.specs.Prelude.{ℕ, zero, suc, ◌<◌, ◌≡◌, refl, Bool, true, false, ◌&&◌, List, [], ◌∷◌, ltb, length, Option}
use Rattle.std.proofs.Common.{sym, ap, subst, ⊎_elim}
use Rattle.std.proofs.Math.Bool.{not}
use Rattle.std.proofs.lemmas.Bool.{false≢true, not-true}
use Rattle.residue.specs.laws.Choice.{never, same_bool, both, first, second, by_test, clash}
use Rattle.sets.specs.Sets.{some}
use Rattle.sets.specs.laws.Members.{some_true, some_none}
use Rattle.lists.specs.Filters.{Filter}
use Rattle.lists.specs.laws.Ranking.{above_transitive}
use Rattle.lists.specs.laws.Topmost.{fires_below, matches_fires, matches_top, top_matches, Top, topmost}
use Rattle.lists.specs.Ranks.{above, fires, matches}
use Rattle.states.specs.States.{Standing, out, left, State, standing, is_held, is_out, nothing, question_of, sure, is_open}
use Rattle.states.proofs.laws.Keeps.{none_asked}
use Rattle.states.proofs.laws.Truth.{Says, Tells, held_fires}

pub not_held_out : (x : Standing) → is_held x ≡ true → is_out x ≡ false
unfolding is_held is_out
not_held_out out e = absurd (false≢true e)
not_held_out (left ts) e = refl

out_said : (fs : List Filter) (r : ℕ → Option ℕ) (i : ℕ) (x : Standing) → is_out x ≡ true → Says fs r x i → Says fs r out i
unfolding is_out
out_said fs r i out e t = t
out_said fs r i (left ts) e t = absurd (false≢true e)

-- ---- sure, taken apart

module _ (fs : List Filter) where
  abbrev doubts : State → ℕ → Bool
  doubts s i = some (length fs) (λ j. above fs j i && not (is_out (standing s j)))

  pub sure_held : (s : State) (i : ℕ) → sure fs s i ≡ true → is_held (standing s i) ≡ true
  unfolding sure
  sure_held s i e = first (is_held (standing s i)) (not (doubts s i)) e

  -- Filters of the list that rank above a sure one are out.
  pub sure_above : (s : State) (i : ℕ) → sure fs s i ≡ true → (j : ℕ) → j < length fs → above fs j i ≡ true → is_out (standing s j) ≡ true
  unfolding sure
  sure_above s i e j l a =
      by_test (is_out (standing s j) ≡ true) (is_out (standing s j)) (λ z. z)
      (λ z.
      clash (doubts s i)
      (some_true (length fs) (λ k. above fs k i && not (is_out (standing s k))) j l (both (above fs j i) (not (is_out (standing s j))) a (ap not z)))
      (not-true (doubts s i) (second (is_held (standing s i)) (not (doubts s i)) e)))

  pub held_sure :
      (s : State) (i : ℕ) → is_held (standing s i) ≡ true → ((j : ℕ) → j < length fs → above fs j i ≡ true → is_out (standing s j) ≡ true) → sure fs s i ≡ true
  unfolding sure
  held_sure s i e h =
      both (is_held (standing s i)) (not (doubts s i)) e
      (ap not
      (some_none (length fs) (λ j. above fs j i && not (is_out (standing s j)))
      (λ j l. never (above fs j i && not (is_out (standing s j)))
      (λ z.
      clash (is_out (standing s j)) (h j l (first (above fs j i) (not (is_out (standing s j))) z))
      (not-true (is_out (standing s j)) (second (above fs j i) (not (is_out (standing s j))) z))))))

-- ---- the match set

module _ (fs : List Filter) (r : ℕ → Option ℕ) where
  -- In a state that tells the truth the topmost is not out.
  top_not_out : (s : State) → Tells fs r s → (i k : ℕ) → Top fs r (length fs) i k → is_out (standing s k) ≡ false
  top_not_out s t i k p =
      never (is_out (standing s k))
      (λ e.
      ⊎_elim
      (λ (z : fires fs r k ≡ false). clash (fires fs r k) p.fired z)
      (λ (z : (j : ℕ) × (above fs j k ≡ true) × (fires fs r j ≡ true)). p.best z.0 (fires_below fs r z.0 z.2) z.1 z.2)
      (out_said fs r k (standing s k) e (t k)))

  pub sure_matches : (s : State) → Tells fs r s → (i : ℕ) → sure fs s i ≡ true → matches fs r i ≡ true
  sure_matches s t i e =
      top_matches fs r i (held_fires fs r s t i (sure_held fs s i e))
      (λ j a f.
      let p = topmost fs r (length fs) j f in
      let k = p.0 in
      clash (is_out (standing s k))
      (sure_above fs s i e k (fires_below fs r k p.1.fired) (⊎_elim
      (λ (z : k ≡ j). subst (λ (n : ℕ). above fs n i ≡ true) (sym z) a)
      (λ (z : above fs k j ≡ true). above_transitive fs k j i z a)
      p.1.over))
      (top_not_out s t j k p.1))

pub out_not_matches : (fs : List Filter) (r : ℕ → Option ℕ) (s : State) → Tells fs r s → (i : ℕ) → is_out (standing s i) ≡ true → matches fs r i ≡ false
out_not_matches fs r s t i e =
    never (matches fs r i)
    (λ m.
    ⊎_elim
    (λ (z : fires fs r i ≡ false). clash (fires fs r i) (matches_fires fs r i m) z)
    (λ (z : (j : ℕ) × (above fs j i ≡ true) × (fires fs r j ≡ true)). matches_top fs r i m z.0 z.1 z.2)
    (out_said fs r i (standing s i) e (t i)))

-- ---- a final state

-- Each filter is out or held.
pub final_standing : (s : State) → question_of s ≡ nothing → (i : ℕ) → is_out (standing s i) ≡ false → is_held (standing s i) ≡ true
unfolding question_of is_out is_held
final_standing [] e i h = absurd (false≢true (sym h))
final_standing (out ∷ s) e zero h = absurd (false≢true (sym h))
final_standing (out ∷ s) e (suc i) h = final_standing s e i h
final_standing (left [] ∷ s) e zero h = refl
final_standing (left [] ∷ s) e (suc i) h = final_standing s e i h
final_standing (left (t ∷ ts) ∷ s) e i h = absurd (none_asked t (sym e))

-- What matches is sure at a final state.
final_matches : (fs : List Filter) (r : ℕ → Option ℕ) (s : State) → Tells fs r s → question_of s ≡ nothing → (i : ℕ) → matches fs r i ≡ true → sure fs s i ≡ true
final_matches fs r s t e i m =
    held_sure fs s i
    (final_standing s e i (never (is_out (standing s i)) (λ z. clash (matches fs r i) m (out_not_matches fs r s t i z))))
    (λ j l a.
    by_test (is_out (standing s j) ≡ true) (is_out (standing s j)) (λ z. z)
    (λ z. absurd (matches_top fs r i m j a (held_fires fs r s t j (final_standing s e j z)))))

pub final_sure : (fs : List Filter) → (r : ℕ → Option ℕ) (s : State) → Tells fs r s → question_of s ≡ nothing → (i : ℕ) → sure fs s i ≡ matches fs r i
final_sure fs r s t e i = same_bool (sure fs s i) (matches fs r i) (sure_matches fs r s t i) (final_matches fs r s t e i)

abbrev pub Shut : List Filter → State → Type 0
Shut fs s = (i j : ℕ) → j < length fs → above fs j i ≡ true → is_held (standing s j) ≡ true → is_out (standing s i) ≡ true

pub final_none_open : (fs : List Filter) (s : State) → Shut fs s → question_of s ≡ nothing → (i : ℕ) → is_open fs s i ≡ false
unfolding is_open
final_none_open fs s c e i =
    never (ltb i (length fs) && not (sure fs s i) && not (is_out (standing s i)))
    (λ z.
    let front = ltb i (length fs) && not (sure fs s i) in
    let o : is_out (standing s i) ≡ false = not-true (is_out (standing s i)) (second front (not (is_out (standing s i))) z) in
    let n : sure fs s i ≡ false = not-true (sure fs s i) (second (ltb i (length fs)) (not (sure fs s i)) (first front (not (is_out (standing s i))) z)) in
    clash (sure fs s i)
    (held_sure fs s i (final_standing s e i o)
    (λ j l a.
    by_test (is_out (standing s j) ≡ true) (is_out (standing s j)) (λ y. y)
    (λ y. clash (is_out (standing s i)) (c i j l a (final_standing s e j y)) o)))
    n)
