-- The machine of a list of filters (document 01, "States and the table").
--   box_of fs       the states of the list fs, compared, asked and stepped
--   levels_of fs    more than the questions on any path
--   states_of fs    its states in the order of their numbers: the start is 0, ways are built holds, fails, absent
--   records_in fs   the words of its records
use Rattle.std.specs.Prelude.{ℕ, suc, List, []}
use Rattle.lists.specs.Filters.{Filter, tests_in}
use Rattle.states.specs.States.{State, question_of, start, step, sure_set, out_set}
use Rattle.states.specs.Runs.{asks}
use Rattle.states.specs.Same.{same_state}
use Rattle.automaton.specs.Machines.{Machine, visit, records_of}
use Rattle.slots.specs.Words.{question_words}

abbrev pub box_of : List Filter → Machine
box_of fs =
    record {
      State = State;
      same = same_state;
      asks = λ s. asks (question_of s);
      step = λ o s. step fs o s;
      question = λ s. question_words (question_of s);
      sure = λ s. sure_set fs s;
      out = λ s. out_set fs s;
    }

-- No path is longer than the list's tests.
abbrev pub levels_of : List Filter → ℕ
levels_of fs = suc (tests_in fs)

unfoldable pub states_of : List Filter → List State
states_of fs = visit (box_of fs) (levels_of fs) [] (start fs)

unfoldable pub records_in : List Filter → List ℕ
records_in fs = records_of (box_of fs) (states_of fs)
