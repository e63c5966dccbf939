-- What the answer of a build says of the list and the room.
--   Success l t s   the list is accepted, its states fit the slots, and its records stand in the table
use Rattle.std.specs.Prelude.{ℕ, ◌≤◌, ◌<◌, ◌≡◌, Bool, cond, List, Ok, Err}
use Rattle.std.proofs.Common.{arith, ◌∙◌, ltb-true, ltb-false}
use Rattle.std.proofs.Math.Path.{refl, ap}
use Rattle.std.proofs.Math.Bool.{true, false}
use Rattle.std.proofs.Math.Dec.{ltb}
use Rattle.std.proofs.Math.ListN.{length}
use Rattle.refusals.specs.Numbers.{number_of, unplaced}
use Rattle.refusals.specs.declared.Refusal.TheVariants.{ScratchRoom}
use Rattle.lists.specs.Filters.{Filter, filters_of}
use Rattle.lists.specs.inner.Well.{well_filters}
use Rattle.lists.specs.Refusals.{Listed, counts, listed}
use Rattle.lists.specs.laws.Accepted.{accepted_well}
use Rattle.tables.specs.Tables.{slots_of}
use Rattle.machine.specs.Box.{states_of}
use Rattle.builder.specs.Outcome.{refusal_of, Left, scratch_words, refused, no_room, placed, by_room, outcome_by, outcome}
use Rattle.lists.specs.laws.Faults.{Faulty, listed_faulty}

pub record Success (l t s : List ℕ) : Type 0 where
  pub listing : (n : ℕ) × (k : ℕ) × (listed l ≡ Ok (counts n k))
  pub well : well_filters (filters_of l) ≡ true
  pub fits : length (states_of (filters_of l)) ≤ slots_of t
  pub left : outcome l t s ≡ placed (filters_of l) t s

-- ---- an accepted list

module _ (fs : List Filter) (t s : List ℕ) where
  accepted_cases :
      (P : Left → Type 0) → (length s < scratch_words t → P (refused (unplaced ScratchRoom) t s)) → (scratch_words t ≤ length s → slots_of t < length (states_of fs) → P (no_room t s)) →
      (scratch_words t ≤ length s → length (states_of fs) ≤ slots_of t → P (placed fs t s)) → P (by_room fs t s)
  unfolding by_room
  accepted_cases P f g k = go (ltb (length s) (scratch_words t)) (ltb (slots_of t) (length (states_of fs))) refl refl
    where
      go : (b c : Bool) → ltb (length s) (scratch_words t) ≡ b → ltb (slots_of t) (length (states_of fs)) ≡ c →
          P (cond b (refused (unplaced ScratchRoom) t s) (cond c (no_room t s) (placed fs t s)))
      go true c p q = f (ltb-true _ _ p)
      go false true p q = g (ltb-false _ _ p) (ltb-true _ _ q)
      go false false p q = k (ltb-false _ _ p) (ltb-false _ _ q)

  accepted_built : refusal_of (by_room fs t s).answer ≡ 0 → (length (states_of fs) ≤ slots_of t) × (by_room fs t s ≡ placed fs t s)
  unfolding refused no_room placed number_of
  accepted_built =
      accepted_cases (λ (x : Left). refusal_of x.answer ≡ 0 → (length (states_of fs) ≤ slots_of t) × (x ≡ placed fs t s))
      (λ _ e. absurd (omega arith)) (λ _ _ e. absurd (omega arith)) (λ _ l e. (l, refl))

  accepted_full : scratch_words t ≤ length s → (refusal_of (by_room fs t s).answer ≡ 11 → slots_of t < length (states_of fs)) × (slots_of t < length (states_of fs) → refusal_of (by_room fs t s).answer ≡ 11)
  unfolding refused no_room placed number_of
  accepted_full enough =
      accepted_cases (λ (x : Left). (refusal_of x.answer ≡ 11 → slots_of t < length (states_of fs)) × (slots_of t < length (states_of fs) → refusal_of x.answer ≡ 11))
      (λ less. absurd (omega arith)) (λ _ l. ((λ _. l), (λ _. refl))) (λ _ l. ((λ e. absurd (omega arith)), (λ m. absurd (omega arith))))

  accepted_fits : scratch_words t ≤ length s → length (states_of fs) ≤ slots_of t → refusal_of (by_room fs t s).answer ≡ 0
  unfolding refused no_room placed number_of
  accepted_fits enough room =
      accepted_cases (λ (x : Left). refusal_of x.answer ≡ 0) (λ less. absurd (omega arith)) (λ _ l. absurd (omega arith)) (λ _ _. refl)

-- ---- any list

module _ (l t s : List ℕ) where
  pub build_success : refusal_of (outcome l t s).answer ≡ 0 → Success l t s
  unfolding outcome outcome_by refused
  build_success e = go (listed l) refl (listed_faulty l) e
    where
      go : (c : Listed) → listed l ≡ c → Faulty c → refusal_of (outcome_by c l t s).answer ≡ 0 → Success l t s
      go (Err r) p some e = absurd (omega arith)
      go (Ok c) p some e =
          let a = accepted_built (filters_of l) t s e in
          record { listing = (c.filters, c.tests, p); well = accepted_well l c.filters c.tests p; fits = a.0; left = ap (λ (c : Listed). outcome_by c l t s) p ∙ a.1 }

  module _ (n k : ℕ) (e : listed l ≡ Ok (counts n k)) (enough : scratch_words t ≤ length s) where
    accepted_outcome : outcome l t s ≡ by_room (filters_of l) t s
    unfolding outcome outcome_by
    accepted_outcome = ap (λ (c : Listed). outcome_by c l t s) e

    pub build_full :
        (refusal_of (outcome l t s).answer ≡ 11 → slots_of t < length (states_of (filters_of l))) ×
        (slots_of t < length (states_of (filters_of l)) → refusal_of (outcome l t s).answer ≡ 11)
    build_full = rw accepted_outcome (accepted_full (filters_of l) t s enough)

    pub build_fits : length (states_of (filters_of l)) ≤ slots_of t → refusal_of (outcome l t s).answer ≡ 0
    build_fits room = rw accepted_outcome (accepted_fits (filters_of l) t s enough room)
