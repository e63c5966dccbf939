-- A state met has its place, which is its number: below the length, its own, and the same in every longer list.
use Rattle.std.specs.Prelude.{ℕ, suc, ◌+◌, ◌<◌, ◌≡◌, Bool, cond, ◌||◌, length}
use Rattle.std.proofs.Common.{arith, sym, ◌∙◌, subst}
use Rattle.std.proofs.Math.Numerals.{add-one}
use Rattle.std.proofs.Math.Path.{refl, ap}
use Rattle.std.proofs.Math.Bool.{true, false, or-true}
use Rattle.std.proofs.lemmas.Bool.{false≢true}
use mathlib.Core.List.{List, [], ◌∷◌, ◌++◌, append_assoc, Memᴰ}
use Rattle.std.proofs.Math.ListN.{get_or}
use Rattle.automaton.specs.Machines.{Machine, meets, place_of}
use Rattle.automaton.proofs.laws.Lists.{each_head, each_tail, Each, Begins}
use Rattle.automaton.specs.inner.Lawful.{Lawful}

-- The states met, as a longer list has them.

pub meets_nil : (M : Machine) (s : M.State) → meets M [] s ≡ false
unfolding meets
meets_nil M s = refl

pub meets_append : (M : Machine) (met more : List M.State) (s : M.State) → meets M met s ≡ true → meets M (met ++ more) s ≡ true
unfolding meets
meets_append M [] more s e = absurd (false≢true e)
meets_append M (x ∷ met) more s e = go (M.same x s) (λ r. meets_append M met more s r) e
  where
    go : (b : Bool) → (meets M met s ≡ true → meets M (met ++ more) s ≡ true) → (b || meets M met s) ≡ true → (b || meets M (met ++ more) s) ≡ true
    go true below r = refl
    go false below r = below r

pub place_append : (M : Machine) (met more : List M.State) (s : M.State) → meets M met s ≡ true → place_of M (met ++ more) s ≡ place_of M met s
unfolding meets place_of
place_append M [] more s e = absurd (false≢true e)
place_append M (x ∷ met) more s e = go (M.same x s) (λ r. place_append M met more s r) e
  where
    go : (b : Bool) → (meets M met s ≡ true → place_of M (met ++ more) s ≡ place_of M met s) → (b || meets M met s) ≡ true
        → cond b 0 (place_of M (met ++ more) s + 1) ≡ cond b 0 (place_of M met s + 1)
    go true below r = refl
    go false below r = ap (λ (n : ℕ). n + 1) (below r)

pub place_new : (M : Machine) (met more : List M.State) (s : M.State) → meets M met s ≡ false → M.same s s ≡ true
    → place_of M (met ++ s ∷ more) s ≡ length met
unfolding meets place_of
place_new M [] more s e r = rw r
place_new M (x ∷ met) more s e r = go (M.same x s) (λ n. place_new M met more s n r) e
  where
    go : (b : Bool) → (meets M met s ≡ false → place_of M (met ++ s ∷ more) s ≡ length met) → (b || meets M met s) ≡ false
        → cond b 0 (place_of M (met ++ s ∷ more) s + 1) ≡ suc (length met)
    go true below n = absurd (false≢true (sym n))
    go false below n = add-one _ ∙ ap suc (below n)

pub place_below : (M : Machine) (met : List M.State) (s : M.State) → meets M met s ≡ true → place_of M met s < length met
unfolding meets place_of
place_below M [] s e = absurd (false≢true e)
place_below M (x ∷ met) s e = go (M.same x s) (λ r. place_below M met s r) e
  where
    go : (b : Bool) → (meets M met s ≡ true → place_of M met s < length met) → (b || meets M met s) ≡ true
        → cond b 0 (place_of M met s + 1) < suc (length met)
    go true below r = omega arith
    go false below r = omega (arith, below r)

-- The same, of a list that begins the longer one.

pub place_begins : (M : Machine) {met whole : List M.State} (s : M.State) → Begins met whole → meets M met s ≡ true
    → place_of M whole s ≡ place_of M met s
place_begins M {met} s b e = rw b.grown (place_append M met b.rest s e)

pub place_begins_new : (M : Machine) (met more : List M.State) {whole : List M.State} (s : M.State) → Begins (met ++ s ∷ more) whole
    → meets M met s ≡ false → M.same s s ≡ true → place_of M whole s ≡ length met
place_begins_new M met more s b e r = rw (b.grown, append_assoc met (s ∷ more) b.rest) (place_new M met (more ++ b.rest) s e r)

module _ {M : Machine} {Good : M.State → Type 0} {left : M.State → ℕ} (law : Lawful M Good left) where
  pub mem_meets : {s : M.State} {met : List M.State} → Good s → Memᴰ s met → meets M met s ≡ true
  unfolding meets
  mem_meets {s = s} {met = met} g (Memᴰ.head {x = x} {xs = xs} e) =
      ap (λ (b : Bool). b || meets M xs s) (subst (λ (y : M.State). M.same y s ≡ true) e (law.same_refl s g))
  mem_meets {s = s} {met = met} g (Memᴰ.tail {x = x} {xs = xs} m) = ap (λ (b : Bool). M.same x s || b) (mem_meets g m) ∙ or-true (M.same x s)

  pub meets_mem : (met : List M.State) (s : M.State) → Each Good met → meets M met s ≡ true → Memᴰ s met
  unfolding meets
  meets_mem [] s good e = absurd (false≢true e)
  meets_mem (x ∷ met) s good e = go (M.same x s) refl (λ r. meets_mem met s (each_tail good) r) e
    where
      go : (b : Bool) → M.same x s ≡ b → (meets M met s ≡ true → Memᴰ s met) → (b || meets M met s) ≡ true → Memᴰ s (x ∷ met)
      go true q below r = Memᴰ.head (sym (law.same_eq x s (each_head good) q))
      go false q below r = Memᴰ.tail (below r)

  pub place_state_lem : (met : List M.State) (s d : M.State) → Each Good met → meets M met s ≡ true → get_or met (place_of M met s) d ≡ s
  unfolding meets place_of
  place_state_lem [] s d good e = absurd (false≢true e)
  place_state_lem (x ∷ met) s d good e = go (M.same x s) refl (λ r. place_state_lem met s d (each_tail good) r) e
    where
      go : (b : Bool) → M.same x s ≡ b → (meets M met s ≡ true → get_or met (place_of M met s) d ≡ s) → (b || meets M met s) ≡ true
          → get_or (x ∷ met) (cond b 0 (place_of M met s + 1)) d ≡ s
      go true q below r = law.same_eq x s (each_head good) q
      go false q below r = rw add-one (below r)
