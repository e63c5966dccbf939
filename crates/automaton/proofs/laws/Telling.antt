-- Every record that is placed has the question and the sets of its state: storing a state and putting in a next number keep it, so building ways does.
--   ToldBy M p     so it is of the memory that placing comes to, if all states found a slot
--   told_at        record i and state i
--   told_none, told_stored, told_linked   of no states, of one state more, with one next number more
--   told_way, told_state   of the memory after a way, and after all ways of a state
use Prim.Native.Nat.{ℕ, zero, suc, ◌<◌}
use Rattle.std.proofs.Common.{arith, ◌∙◌}
use Rattle.std.specs.Prelude.{◌≡◌, Bool, leb, length, get_or, set, None, Some}
use Rattle.std.proofs.Math.Bool.{true, false}
use mathlib.Core.List.{List, [], ◌∷◌, ◌++◌}
use Rattle.residue.specs.declared.Outcome.{Outcome}
use Rattle.residue.specs.declared.Outcome.TheVariants.{Holds, Fails, Absent}
use Rattle.tables.specs.Tables.{next_at}
use Rattle.tables.specs.inner.Records.{agree}
use Rattle.tables.proofs.laws.Agreeing.{agree_self, agree_next}
use Rattle.automaton.specs.Machines.{Machine, meets, place_of}
use Rattle.automaton.specs.inner.Placing.{Memory, Placement, fresh_of, stored, linked, and_then, place_way, place_state, ToldIn, Told}

module _ (M : Machine) where
  -- ---- lists of states and records

  pub told_at : (met : List M.State) (records : List (List ℕ)) (i : ℕ) (d : M.State) → ToldIn M met records → i < length met
      → agree (get_or records i []) (fresh_of M (get_or met i d)) ≡ true
  unfolding ToldIn
  told_at [] [] i d t h = absurd (omega arith)
  told_at [] (r ∷ records) i d t h = absurd t
  told_at (s ∷ met) [] i d t h = absurd t
  told_at (s ∷ met) (r ∷ records) zero d t h = t.0
  told_at (s ∷ met) (r ∷ records) (suc i) d t h = told_at met records i d t.1 (omega arith)

  told_more : (met : List M.State) (records : List (List ℕ)) (s : M.State) → ToldIn M met records → ToldIn M (met ++ (s ∷ [])) (records ++ (fresh_of M s ∷ []))
  unfolding ToldIn
  told_more [] [] s t = (agree_self (fresh_of M s), tt)
  told_more [] (r ∷ records) s t = absurd t
  told_more (x ∷ met) [] s t = absurd t
  told_more (x ∷ met) (r ∷ records) s t = (t.0, told_more met records s t.1)

  told_next : (met : List M.State) (records : List (List ℕ)) (o : Outcome) (at next : ℕ) → ToldIn M met records
      → ToldIn M met (set records at (set (get_or records at []) (next_at o) next))
  unfolding ToldIn
  told_next [] [] o at next t = tt
  told_next [] (r ∷ records) o at next t = absurd t
  told_next (x ∷ met) [] o at next t = absurd t
  told_next (x ∷ met) (r ∷ records) o zero next t = (agree_next o next r (fresh_of M x) ∙ t.0, t.1)
  told_next (x ∷ met) (r ∷ records) o (suc at) next t = (t.0, told_next met records o at next t.1)

  -- ---- memories

  pub told_none : Told M (record { met = []; records = [] })
  unfolding ToldIn
  told_none = tt

  pub told_stored : (s : M.State) (m : Memory M) → Told M m → Told M (stored M s m)
  unfolding stored
  told_stored s m t = told_more m.met m.records s t

  told_linked : (o : Outcome) (at next : ℕ) (m : Memory M) → Told M m → Told M (linked M o at next m)
  unfolding linked
  told_linked o at next m t = told_next m.met m.records o at next t

  abbrev pub ToldBy : Placement M → Type 0
  ToldBy None = Unit {0}
  ToldBy (Some m) = Told M m

  told_then : (p : Placement M) (f : Memory M → Placement M) → ToldBy p → ((m : Memory M) → Told M m → ToldBy (f m)) → ToldBy (and_then M p f)
  unfolding and_then
  told_then None f t k = tt
  told_then (Some m) f t k = k m t

  pub told_way : (slots : ℕ) (build : ℕ → M.State → Memory M → Placement M) → ((at : ℕ) (s : M.State) (m : Memory M) → Told M m → ToldBy (build at s m))
      → (o : Outcome) (at : ℕ) (s : M.State) (m : Memory M) → Told M m → ToldBy (place_way M slots build o at s m)
  unfolding place_way
  told_way slots build keeps o at s m t = go (meets M m.met (M.step o s)) (leb slots (length m.met))
    where
      go : (old full : Bool) → ToldBy (elim old [
        | true ↦ Some (linked M o at (place_of M m.met (M.step o s)) m)
        | false ↦ elim full [
          | true ↦ None
          | false ↦ and_then M (build (length m.met) (M.step o s) (stored M (M.step o s) m))
              (λ m'. Some (linked M o at (length m.met) m'))
        ]
      ])
      go true full = told_linked o at (place_of M m.met (M.step o s)) m t
      go false true = tt
      go false false =
          told_then (build (length m.met) (M.step o s) (stored M (M.step o s) m)) (λ m'. Some (linked M o at (length m.met) m'))
          (keeps (length m.met) (M.step o s) (stored M (M.step o s) m) (told_stored (M.step o s) m t))
          (λ m' t'. told_linked o at (length m.met) m' t')

  -- All ways of a state, where it asks.
  told_ways : (slots : ℕ) (build : ℕ → M.State → Memory M → Placement M) → ((at : ℕ) (s : M.State) (m : Memory M) → Told M m → ToldBy (build at s m))
      → (at : ℕ) (s : M.State) (m : Memory M) → Told M m → (asks : Bool)
      → ToldBy (elim asks [
        | true ↦ and_then M (place_way M slots build Holds at s m) (λ m₁. and_then M (place_way M slots build Fails at s m₁) (λ m₂. place_way M slots build Absent at s m₂))
        | false ↦ Some m
      ])
  told_ways slots build keeps at s m t true =
      told_then (place_way M slots build Holds at s m) (λ m₁. and_then M (place_way M slots build Fails at s m₁) (λ m₂. place_way M slots build Absent at s m₂))
      (told_way slots build keeps Holds at s m t)
      (λ m₁ t₁. told_then (place_way M slots build Fails at s m₁) (λ m₂. place_way M slots build Absent at s m₂) (told_way slots build keeps Fails at s m₁ t₁)
      (λ m₂ t₂. told_way slots build keeps Absent at s m₂ t₂))
  told_ways slots build keeps at s m t false = t

  pub told_state : (slots f at : ℕ) (s : M.State) (m : Memory M) → Told M m → ToldBy (place_state M slots f at s m)
  unfolding place_state
  told_state slots zero at s m t = t
  told_state slots (suc f) at s m t = told_ways slots (place_state M slots f) (λ at' s' m' t'. told_state slots f at' s' m' t') at s m t (M.asks s)
