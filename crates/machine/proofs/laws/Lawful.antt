-- The machine of a well-formed list is lawful, so its states are met each once, and they are exactly those that outcomes reach from the start.
use Rattle.std.specs.Prelude.{◌*◌, ◌<◌, ◌≡◌, refl, true, List, length, get_or}
use Rattle.std.proofs.Common.{arith, ◌∙◌}
use Rattle.residue.specs.declared.Outcome.{Outcome}
use Rattle.lists.specs.Words.{item_words}
use Rattle.lists.specs.inner.Well.{well_filters}
use Rattle.lists.specs.Filters.{Filter}
use Rattle.states.specs.States.{State, Question, nothing, ask, question_of, start, step}
use Rattle.states.specs.inner.Remaining.{remaining}
use Rattle.states.proofs.laws.Well.{well_start, well_step}
use Rattle.states.proofs.laws.Standings.{length_start, length_step}
use Rattle.states.proofs.laws.Measure.{start_remaining, next_falls}
use Rattle.states.proofs.laws.Keeps.{step_keeps}
use Rattle.states.proofs.laws.Same.{same_state_eq, same_state_refl}
use Rattle.tables.specs.Tables.{record_words}
use Rattle.tables.specs.inner.Records.{ask_words}
use Rattle.automaton.specs.Machines.{meets, place_of}
use Rattle.automaton.specs.Lawful.{Reached, Distinct}
use Rattle.automaton.specs.inner.Lawful.{Lawful}
use Rattle.automaton.proofs.laws.Reaching.{all_each_good, all_closed, all_start, all_reached, reached_all, all_distinct, all_place_state, all_place_start}
use Rattle.automaton.proofs.laws.Lists.{Each}
use Rattle.automaton.proofs.laws.Places.{place_below}
use Rattle.automaton.proofs.laws.Records.{records_long}
use Rattle.states.specs.Runs.{asks}
use Rattle.slots.specs.Words.{question_words}
use Rattle.slots.specs.laws.Fitting.{fits_start, fits_step}
use Rattle.machine.specs.inner.Good.{Good}
use Rattle.machine.specs.Box.{box_of, levels_of, states_of, records_in}

pub question_four : (a : Question) → length (question_words a) ≡ ask_words
unfolding question_words item_words
question_four nothing = refl
question_four (ask q) = refl

module _ (fs : List Filter) where
  pub good_step : (o : Outcome) (s : State) → Good fs s → Good fs (step fs o s)
  good_step o s g =
      step_keeps fs (Good fs)
      (λ o q x _ g. record { well = well_step fs o q x g.well; each = length_step fs o q x ∙ g.each; fits = fits_step fs o q x g.fits })
      o s g

  pub good_start : well_filters fs ≡ true → Good fs (start fs)
  good_start h = record { well = well_start fs h; each = length_start fs; fits = fits_start fs h }

  pub box_lawful : Lawful (box_of fs) (Good fs) remaining
  box_lawful =
      record {
        same_eq = λ a b g e. same_state_eq a b e;
        same_refl = λ a g. same_state_refl a;
        good_step = λ o s g e. good_step o s g;
        falls = λ o s g e. next_falls fs o s g.well e;
        question_long = λ s g. question_four (question_of s);
      }

-- All states of a well-formed list.
module _ (fs : List Filter) (h : well_filters fs ≡ true) where
  pub enough : remaining (start fs) < levels_of fs
  enough = omega (arith, start_remaining fs)

  pub start_first : place_of (box_of fs) (states_of fs) (start fs) ≡ 0
  unfolding states_of
  start_first = all_place_start (box_lawful fs) (levels_of fs) (start fs) (good_start fs h) enough

  pub start_met : meets (box_of fs) (states_of fs) (start fs) ≡ true
  unfolding states_of
  start_met = all_start (box_lawful fs) (levels_of fs) (start fs) (good_start fs h) enough

  pub states_good : Each (Good fs) (states_of fs)
  unfolding states_of
  states_good = all_each_good (box_lawful fs) (levels_of fs) (start fs) (good_start fs h) enough

  pub states_closed : (o : Outcome) (s : State) → meets (box_of fs) (states_of fs) s ≡ true → asks (question_of s) ≡ true → meets (box_of fs) (states_of fs) (step fs o s) ≡ true
  unfolding states_of
  states_closed = all_closed (box_lawful fs) (levels_of fs) (start fs) (good_start fs h) enough

  pub states_place : (s d : State) → meets (box_of fs) (states_of fs) s ≡ true → get_or (states_of fs) (place_of (box_of fs) (states_of fs) s) d ≡ s
  unfolding states_of
  states_place = all_place_state (box_lawful fs) (levels_of fs) (start fs) (good_start fs h) enough

  -- No state stands twice among them.
  pub states_distinct : Distinct (box_of fs) (states_of fs)
  unfolding states_of
  states_distinct = all_distinct (box_lawful fs) (levels_of fs) (start fs) (good_start fs h) enough

  -- A state is one of them exactly where outcomes reach it from the start.
  pub states_reached : (s : State) → meets (box_of fs) (states_of fs) s ≡ true → Reached (box_of fs) (start fs) s
  unfolding states_of
  states_reached = all_reached (box_lawful fs) (levels_of fs) (start fs) (good_start fs h) enough

  pub reached_states : (s : State) → Reached (box_of fs) (start fs) s → meets (box_of fs) (states_of fs) s ≡ true
  unfolding states_of
  reached_states s r = reached_all (box_lawful fs) (levels_of fs) (start fs) (good_start fs h) enough r

  -- There is at least the start, and a record for each state.
  pub states_some : 0 < length (states_of fs)
  states_some = omega (arith, place_below (box_of fs) (states_of fs) (start fs) start_met)

  pub records_size : length (records_in fs) ≡ record_words * length (states_of fs)
  unfolding records_in
  records_size = records_long (box_lawful fs) (states_of fs) states_good
