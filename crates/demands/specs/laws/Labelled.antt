-- A table that has the records of a list at its front is labelled by the list's states in the order of their numbers, and each record asks what document 01 picks.
use Rattle.std.specs.Prelude.{ℕ, ◌*◌, ◌≤◌, ◌<◌, ◌≡◌, ◌⊎◌, true, List, [], ◌++◌, length, get_or}
use Rattle.std.proofs.Common.{arith, sym, ◌∙◌, inl, inr, length-append, ltb-false, le-ltb}
use Rattle.std.proofs.Math.Path.{ap}
use Rattle.residue.specs.declared.Outcome.{Outcome}
use Rattle.lists.specs.Words.{item_words}
use Rattle.lists.specs.inner.Well.{well_filters}
use Rattle.lists.specs.Filters.{Item, Filter}
use Rattle.states.specs.States.{State, nothing, ask, question_of, start, step_by, sure_set, out_set}
use Rattle.states.specs.Runs.{asks}
use Rattle.states.specs.inner.Choices.{Picked}
use Rattle.states.proofs.laws.Keeps.{by_question, step_ask}
use Rattle.automaton.specs.Machines.{meets, place_of, nexts_of}
use Rattle.automaton.proofs.laws.Lists.{get_or_mem}
use Rattle.automaton.proofs.laws.Places.{mem_meets, place_below}
use Rattle.tables.specs.Tables.{record_words, max_slots, slots_of, sure_set_at, out_set_at}
use Rattle.tables.specs.inner.Records.{question_at, way_at}
use Rattle.tables.proofs.laws.Least.{slots_least}
use Rattle.slots.specs.Words.{question_words}
use Rattle.machine.specs.Box.{box_of, states_of, records_in}
use Rattle.machine.proofs.laws.Front.{front_spells, front_way}
use Rattle.machine.specs.inner.Good.{Good}
use Rattle.machine.proofs.laws.Lawful.{box_lawful, states_good, states_closed, states_place, states_some, records_size, start_first, start_met}
use Rattle.labels.specs.inner.Labelled.{FinalRecord, AskingRecord, LabelledBy}

-- As many slots as there are records.
slots_fit : (t : List ℕ) (m : ℕ) → m ≤ max_slots → record_words * m ≤ length t → m ≤ slots_of t
slots_fit t m small room = ltb-false (slots_of t) m (slots_least t m ∙ rw (le-ltb max_slots m small, le-ltb (length t) (record_words * m) room))

module _ (fs : List Filter) (h : well_filters fs ≡ true) (rest : List ℕ) where
  abbrev table : List ℕ
  table = records_in fs ++ rest

  abbrev met : List State
  met = states_of fs

  abbrev give : ℕ → State
  give n = get_or met n []

  -- ---- the record of a state, word by word

  module _ (n : ℕ) (l : n < length met) where
    good : Good fs (give n)
    good = states_good fs h (give n) (get_or_mem met n [] l)

    is_met : meets (box_of fs) met (give n) ≡ true
    is_met = mem_meets (box_lawful fs) good (get_or_mem met n [] l)

    sure_at_lem : sure_set_at table n ≡ sure_set fs (give n)
    sure_at_lem = (front_spells fs h rest n l).sure

    out_at_lem : out_set_at table n ≡ out_set fs (give n)
    out_at_lem = (front_spells fs h rest n l).out

    -- ---- a final state

    final_record : question_of (give n) ≡ nothing → FinalRecord table n (give n)
    unfolding question_words nexts_of asks
    final_record e =
        record {
          zeros = (front_spells fs h rest n l).question ∙ ap question_words e;
          nowhere = λ o. (front_spells fs h rest n l).way o ∙ rw e;
          none = e;
        }

    -- ---- a state that asks

    module _ (q : Item) (e : question_of (give n) ≡ ask q) where
      asking : asks (question_of (give n)) ≡ true
      unfolding asks
      asking = ap asks e

      question_at_lem : question_at table n ≡ item_words q
      unfolding question_words
      question_at_lem = (front_spells fs h rest n l).question ∙ ap question_words e

      way_at_lem : (o : Outcome) → way_at table n o ≡ place_of (box_of fs) met (step_by fs o q (give n))
      way_at_lem o = front_way fs h rest n l o asking ∙ ap (place_of (box_of fs) met) (step_ask fs o q (give n) e)

      next_met : (o : Outcome) → meets (box_of fs) met (step_by fs o q (give n)) ≡ true
      next_met o = rw (← step_ask fs o q (give n) e) (states_closed fs h o (give n) is_met asking)

      asks_at : AskingRecord Picked fs table (length met) give n
      asks_at =
          record {
            question = q;
            words = question_at_lem;
            may = e;
            inside = λ o. rw (way_at_lem o) (place_below (box_of fs) met (step_by fs o q (give n)) (next_met o));
            leads = λ o. rw (way_at_lem o) (states_place fs h (step_by fs o q (give n)) [] (next_met o));
          }

  pub built_labelled : length met ≤ max_slots → LabelledBy Picked fs table (length met)
  built_labelled small =
      record {
        give = give;
        some = states_some fs h;
        fits = slots_fit table (length met) small (omega (arith, length-append (records_in fs) rest, records_size fs h));
        first = ap give (sym (start_first fs h)) ∙ states_place fs h (start fs) [] (start_met fs h);
        each = λ n l. by_question (FinalRecord table n (give n) ⊎ AskingRecord Picked fs table (length met) give n) (give n) (λ e. inl (final_record n l e)) (λ q e. inr (asks_at n l q e));
        sures = sure_at_lem;
        outs = out_at_lem;
      }
