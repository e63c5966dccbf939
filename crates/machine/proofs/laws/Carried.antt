-- On the words of slots the machine of a list does what it does on states.
--   slots_same, slots_carried   the words of a good state compare, ask, step and read as the state does
--   list_placed     so the builder, placing words, places the list's states with their records, or finds no slot where they are more than the slots
use Rattle.std.specs.Prelude.{ℕ, ◌≡◌, true, List, length, Ok}
use Rattle.std.proofs.Common.{arith, sym, ◌∙◌, subst}
use Rattle.lists.specs.Filters.{Filter, filters_of, tests_in}
use Rattle.lists.specs.inner.Well.{well_filters}
use Rattle.lists.specs.Refusals.{listed, counts}
use Rattle.lists.specs.laws.Accepted.{accepted_count, accepted_well}
use Rattle.lists.specs.Ranks.{rank_sets}
use Rattle.states.specs.States.{start}
use Rattle.slots.specs.inner.Words.{written}
use Rattle.slots.specs.inner.Slots.{start_words}
use Rattle.slots.specs.laws.Written.{same_written, asks_written, next_written, question_written, sure_written, out_written, start_accepted}
use Rattle.automaton.proofs.laws.Carrying.{Carried, SameCarried, placed_carried}
use Rattle.machine.specs.Box.{box_of, states_of}
use Rattle.machine.specs.inner.Slots.{slots_in}
use Rattle.machine.specs.inner.Good.{Good}
use Rattle.machine.specs.inner.Placed.{FitsSlots, PlacesStates}
use Rattle.machine.proofs.laws.Lawful.{good_start, box_lawful, enough}

module _ (fs : List Filter) (few : FitsSlots fs) where
  pub slots_same : SameCarried (box_of fs) (slots_in (length fs) (rank_sets fs)) (Good fs) written
  slots_same = record { same_carried = λ a b g h. same_written a b (g.each ∙ sym h.each) g.fits h.fits }

  pub slots_carried : Carried (box_of fs) (slots_in (length fs) (rank_sets fs)) (Good fs) written
  slots_carried =
      record {
        asks_carried = λ s g. asks_written (length fs) s g.each g.fits;
        step_carried = λ o s g e. next_written fs s g.each few g.fits o e;
        question_carried = λ s g. question_written (length fs) s g.each g.fits;
        sure_carried = λ s g. sure_written fs s g.each few g.fits;
        out_carried = λ s g. out_written fs s g.each few g.fits;
      }

  slots_placed : well_filters fs ≡ true → (slots : ℕ) → PlacesStates fs (length fs) slots (tests_in fs) (written (start fs))
  unfolding states_of
  slots_placed h slots = placed_carried (box_lawful fs) slots_carried slots_same slots (tests_in fs) (start fs) (good_start fs h) (enough fs h)

-- The same for the words of an accepted list.
pub list_placed :
    (l : List ℕ) (n k slots : ℕ) → listed l ≡ Ok (counts n k) → PlacesStates (filters_of l) n slots k (start_words n (rank_sets (filters_of l)) l)
list_placed l n k slots e =
    let fs = filters_of l in
    let c = accepted_count l n k e in
    subst (PlacesStates fs n slots k) (sym (start_accepted l n k e))
    (subst (λ (j : ℕ). PlacesStates fs n slots j (written (start fs))) c.1
    (subst (λ (m : ℕ). PlacesStates fs m slots (tests_in fs) (written (start fs))) c.0
    (slots_placed fs (omega (arith, c.0, c.2)) (accepted_well l n k e) slots)))
