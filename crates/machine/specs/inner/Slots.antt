-- The machine of a list of filters on the words of slots.
--   slots_in n ranks   the machine whose states are the words of a slot of n filters, given their rank sets
use Rattle.std.specs.Prelude.{ℕ, List}
use Rattle.automaton.specs.Machines.{Machine}
use Rattle.slots.specs.inner.Slots.{asks_in, step_words, sure_set_in, out_set_in, same_words}
use Rattle.slots.specs.Asking.{question_in}

abbrev pub slots_in : ℕ → List ℕ → Machine
slots_in n ranks =
    record {
      State = List ℕ;
      same = same_words;
      asks = λ w. asks_in n w;
      step = λ o w. step_words n ranks o w;
      question = λ w. question_in n w;
      sure = λ w. sure_set_in n ranks w;
      out = λ w. out_set_in n w;
    }
