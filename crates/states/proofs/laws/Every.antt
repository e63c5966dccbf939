-- A property of every test that remains in a state: what closing, a division and the question make of it.
--   every_item p ts, every_standing p x, every_state p s   p is true of every test that remains
--   leaves p n d                                        p is true of the test on field n that the residue d leaves, if it leaves one
use Prim.Native.Nat.{ℕ, zero, suc, ◌+◌}
use Rattle.std.specs.Prelude.{◌≡◌, Bool, cond, eqb, Option}
use Rattle.std.proofs.Math.Path.{refl, subst}
use Rattle.std.proofs.Common.{sym}
use Rattle.std.proofs.Math.Bool.{true, false}
use Rattle.std.proofs.lemmas.Bool.{false≢true}
use mathlib.Core.List.{List, [], ◌∷◌, map}
use Rattle.residue.specs.laws.Choice.{by_cond, both, first, second, either}
use Rattle.residue.specs.inner.Relations.{every_left}
use Rattle.residue.specs.Residues.{residue_by}
use Rattle.residue.specs.declared.Test.{Test}
use Rattle.residue.specs.declared.Outcome.{Outcome}
use Rattle.residue.specs.declared.Residue.{Residue}
use Rattle.residue.specs.declared.Residue.TheVariants.{True, False, Left}
use Rattle.fields.specs.Widths.{full}
use Rattle.lists.specs.Filters.{Item, Filter}
use Rattle.states.specs.States.{Standing, out, left, State, standing, keep, join, cut, cut_standing, beaten, closed_from, closed, step_by}
use Rattle.states.proofs.laws.Standings.{fact_by}
use Rattle.states.specs.Same.{same_item}
use Rattle.states.proofs.laws.Same.{same_item_eq}
use Rattle.states.specs.inner.Choices.{among, left_in}
use Rattle.states.specs.inner.Well.{every_item, every_standing, every_state}

abbrev pub leaves : (Item → Bool) → ℕ → Residue → Bool
leaves p n d = every_left (λ (u : Test). p (record { field = n; test = u })) d

module _ (p : Item → Bool) where
  pub every_standing_lem : (s : State) (i : ℕ) → every_state p s ≡ true → every_standing p (standing s i) ≡ true
  unfolding every_state every_standing
  every_standing_lem [] i h = refl
  every_standing_lem (x ∷ s) zero h = first (every_standing p x) (every_state p s) h
  every_standing_lem (x ∷ s) (suc i) h = every_standing_lem s i (second (every_standing p x) (every_state p s) h)

  every_among : (q : Item) (ts : List Item) → every_item p ts ≡ true → among q ts ≡ true → p q ≡ true
  unfolding every_item among
  every_among q [] h e = absurd (false≢true e)
  every_among q (t ∷ ts) h e =
      either (p q ≡ true) (same_item q t) (among q ts)
      (λ z. subst (λ (u : Item). p u ≡ true) (sym (same_item_eq q t z)) (first (p t) (every_item p ts) h))
      (every_among q ts (second (p t) (every_item p ts) h))
      e

  -- It is true of each remaining test, and so of the question.
  pub every_left_lem : (s : State) (q : Item) → every_state p s ≡ true → left_in q s ≡ true → p q ≡ true
  unfolding every_state every_standing left_in
  every_left_lem [] q h e = absurd (false≢true e)
  every_left_lem (out ∷ s) q h e = every_left_lem s q h e
  every_left_lem (left ts ∷ s) q h e =
      either (p q ≡ true) (among q ts) (left_in q s)
      (every_among q ts (first (every_item p ts) (every_state p s) h))
      (every_left_lem s q (second (every_item p ts) (every_state p s) h))
      e

  -- ---- closing

  closed_one : (x : Standing) (b : Bool) → every_standing p x ≡ true → every_standing p (cond b out x) ≡ true
  unfolding every_standing
  closed_one x true e = refl
  closed_one x false e = e

  every_from : (fs : List Filter) (s : State) (k : ℕ) (xs : State) → every_state p xs ≡ true → every_state p (closed_from fs s k xs) ≡ true
  unfolding every_state closed_from
  every_from fs s k [] h = refl
  every_from fs s k (x ∷ xs) h =
      both (every_standing p (cond (beaten fs s k) out x)) (every_state p (closed_from fs s (k + 1) xs))
      (closed_one x (beaten fs s k) (first (every_standing p x) (every_state p xs) h))
      (every_from fs s (k + 1) xs (second (every_standing p x) (every_state p xs) h))

  pub every_closed : (fs : List Filter) (s : State) → every_state p s ≡ true → every_state p (closed fs s) ≡ true
  unfolding closed
  every_closed fs s h = every_from fs s 0 s h

  -- ---- a standing of one test more

  every_keep : (t : Item) (x : Standing) → p t ≡ true → every_standing p x ≡ true → every_standing p (keep t x) ≡ true
  unfolding keep every_standing every_item
  every_keep t out h g = refl
  every_keep t (left ts) h g = both (p t) (every_item p ts) h g

  every_join : (n : ℕ) (d : Residue) (x : Standing) → leaves p n d ≡ true → every_standing p x ≡ true → every_standing p (join n d x) ≡ true
  unfolding join every_left every_standing every_item
  every_join n True x h g = g
  every_join n False x h g = refl
  every_join n (Left u) x h g = every_keep (record { field = n; test = u }) x h g

-- ---- a division, by the fact k about field n: what p holds of before, p' holds of after

module _
    (p p' : Item → Bool) (n : ℕ) (k : Option Test)
    (same : (t : Item) → p t ≡ true → eqb t.field n ≡ true → leaves p' n (residue_by (full n) k t.test) ≡ true)
    (other : (t : Item) → p t ≡ true → eqb t.field n ≡ false → p' t ≡ true) where
  every_cut : (ts : List Item) → every_item p ts ≡ true → every_standing p' (cut n k ts) ≡ true
  unfolding every_item every_standing cut
  every_cut [] h = refl
  every_cut (t ∷ ts) h =
      let ht = first (p t) (every_item p ts) h in
      let hs = every_cut ts (second (p t) (every_item p ts) h) in
      by_cond (λ (x : Standing). every_standing p' x ≡ true) (eqb t.field n)
      (λ e. every_join p' n (residue_by (full n) k t.test) (cut n k ts) (same t ht e) hs)
      (λ e. every_keep p' t (cut n k ts) (other t ht e) hs)

  every_cut_standing : (x : Standing) → every_standing p x ≡ true → every_standing p' (cut_standing n k x) ≡ true
  unfolding every_standing cut_standing
  every_cut_standing out h = refl
  every_cut_standing (left ts) h = every_cut ts h

  every_map : (s : State) → every_state p s ≡ true → every_state p' (map (cut_standing n k) s) ≡ true
  unfolding every_state
  every_map [] h = refl
  every_map (x ∷ s) h =
      both (every_standing p' (cut_standing n k x)) (every_state p' (map (cut_standing n k) s))
      (every_cut_standing x (first (every_standing p x) (every_state p s) h))
      (every_map s (second (every_standing p x) (every_state p s) h))

pub every_step :
    (p p' : Item → Bool) (fs : List Filter) (o : Outcome) (q : Item) (s : State) →
    ((t : Item) → p t ≡ true → eqb t.field q.field ≡ true → leaves p' q.field (residue_by (full q.field) (fact_by o q) t.test) ≡ true) →
    ((t : Item) → p t ≡ true → eqb t.field q.field ≡ false → p' t ≡ true) →
    every_state p s ≡ true → every_state p' (step_by fs o q s) ≡ true
unfolding step_by
every_step p p' fs o q s same other h =
    every_closed p' fs (map (cut_standing q.field (fact_by o q)) s) (every_map p p' q.field (fact_by o q) same other s h)
