-- Laws of the states and records that words hold: what storing a state, storing a record and putting in a next number change.
-- Assumes nothing.
use Rattle.std.specs.Prelude.{ℕ, ◌+◌, ◌*◌, ◌≤◌, ◌<◌, ◌≡◌, refl, Bool, true, false, cond, eqb, take, get_or, set, Some, None}
use Rattle.std.proofs.Math.Path.{ap}
use Rattle.std.proofs.Common.{sym, ◌∙◌, subst, arith, length-set, ext_get_or, get_or-set_same, get_or-set_other, eqb-true}
use mathlib.Core.List.{List, [], ◌∷◌, ◌++◌}
use Rattle.std.proofs.lemmas.Bool.{eqb-false}
use Rattle.sets.specs.Sets.{tally}
use Rattle.sets.specs.laws.Members.{tally_ext, tally_more, get_or_tally, length_tally}
use Rattle.residue.specs.declared.Outcome.{Outcome}
use Rattle.words.specs.laws.Lending.{part_kept}
use Rattle.tables.specs.Tables.{record_words, next_at}
use Rattle.tables.specs.inner.Records.{record_at, with_next}
use Rattle.tables.proofs.laws.Changes.{record_kept, next_same, next_other}
use Rattle.slots.specs.Words.{filter_slot, slot_words}
use Rattle.lists.specs.Filters.{max_filters}
use Rattle.builder.specs.inner.Memory.{slot_at, states_in, records_at}

-- A choice of nothing is made by a test that fails.
pub cond_none : {A : Type 0} (b : Bool) (x : A) → cond b (Some x) None ≡ None → b ≡ false
cond_none true x e = cc
cond_none false x e = refl

pub slot_kept : (n used i : ℕ) (s s' : List ℕ) → n ≤ max_filters → i < used → take (slot_words * used) s' ≡ take (slot_words * used) s → slot_at n s' i ≡ slot_at n s i
unfolding slot_at
slot_kept n used i s s' few h e = part_kept (filter_slot * n) (slot_words * i) (slot_words * used) s s' (omega arith) e

pub states_kept : (n used : ℕ) (s s' : List ℕ) → n ≤ max_filters → take (slot_words * used) s' ≡ take (slot_words * used) s → states_in n used s' ≡ states_in n used s
unfolding states_in
states_kept n used s s' few e = tally_ext used (λ i. slot_at n s' i) (λ i. slot_at n s i) (λ i h. slot_kept n used i s s' few h e)

pub records_kept : (used : ℕ) (t t' : List ℕ) → take (record_words * used) t' ≡ take (record_words * used) t → records_at used t' ≡ records_at used t
unfolding records_at
records_kept used t t' e = tally_ext used (λ i. record_at t' i) (λ i. record_at t i) (λ i h. record_kept used i t t' h e)

-- One more state, in the next slot.
pub states_more : (n used : ℕ) (s s' c : List ℕ) → n ≤ max_filters → take (slot_words * used) s' ≡ take (slot_words * used) s → slot_at n s' used ≡ c
    → states_in n (used + 1) s' ≡ states_in n used s ++ (c ∷ [])
unfolding states_in
states_more n used s s' c few e q =
    tally_more used (λ i. slot_at n s' i)
    ∙ ap (λ (l : List (List ℕ)). l ++ (slot_at n s' used ∷ [])) (unfold states_in in states_kept n used s s' few e)
    ∙ ap (λ (x : List ℕ). tally used (λ i. slot_at n s i) ++ (x ∷ [])) q

-- One more record, behind those already placed.
pub records_more : (used : ℕ) (t t' c : List ℕ) → take (record_words * used) t' ≡ take (record_words * used) t → record_at t' used ≡ c
    → records_at (used + 1) t' ≡ records_at used t ++ (c ∷ [])
unfolding records_at
records_more used t t' c e q =
    tally_more used (λ i. record_at t' i)
    ∙ ap (λ (l : List (List ℕ)). l ++ (record_at t' used ∷ [])) (unfold records_at in records_kept used t t' e)
    ∙ ap (λ (x : List ℕ). tally used (λ i. record_at t i) ++ (x ∷ [])) q

set_tally : {A : Type 0} (n at : ℕ) (p q : ℕ → A) (d : A) → at < n → ((i : ℕ) → (i ≡ at → ⊥) → q i ≡ p i) → set (tally n p) at (q at) ≡ tally n q
set_tally {A} n at p q d h other =
    ext_get_or d (set (tally n p) at (q at)) (tally n q) (length-set (tally n p) at (q at) ∙ length_tally n p ∙ sym (length_tally n q))
    (λ i below. same i (subst (λ (m : ℕ). i < m) (length-set (tally n p) at (q at) ∙ length_tally n p) below))
  where
    same : (i : ℕ) → i < n → get_or (set (tally n p) at (q at)) i d ≡ get_or (tally n q) i d
    same i below = go (eqb i at) refl
      where
        go : (b : Bool) → eqb i at ≡ b → get_or (set (tally n p) at (q at)) i d ≡ get_or (tally n q) i d
        go true e =
            let eq : i ≡ at = eqb-true i at e in
            subst (λ (k : ℕ). get_or (set (tally n p) at (q at)) k d ≡ get_or (tally n q) k d) (sym eq)
            (get_or-set_same (tally n p) at (q at) d (subst (λ (m : ℕ). at < m) (sym (length_tally n p)) h) ∙ sym (get_or_tally n q d at h))
        go false e =
            get_or-set_other (tally n p) at i (q at) d (eqb-false i at e)
            ∙ get_or_tally n p d i below ∙ sym (other i (eqb-false i at e)) ∙ sym (get_or_tally n q d i below)

-- A next number that is put into the table is put into that record alone.
pub records_linked : (used at v : ℕ) (o : Outcome) (t : List ℕ) → at < used
    → records_at used (with_next at o v t) ≡ set (records_at used t) at (set (get_or (records_at used t) at []) (next_at o) v)
unfolding records_at
records_linked used at v o t h =
    sym
    (ap (λ (x : List ℕ). set (tally used (λ i. record_at t i)) at (set x (next_at o) v)) (get_or_tally used (λ i. record_at t i) [] at h)
    ∙ ap (λ (x : List ℕ). set (tally used (λ i. record_at t i)) at x) (sym (next_same at o v t))
    ∙ set_tally used at (λ i. record_at t i) (λ i. record_at (with_next at o v t) i) [] h (next_other at o v t))
