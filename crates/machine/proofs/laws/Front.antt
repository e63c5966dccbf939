-- A table that begins with the records of a list: what record n says of state n.
--   front_spells   the words of its question, its next numbers, its sets
--   front_way      where the state has a question, each next number is that of the state stepped to
use Rattle.std.specs.Prelude.{ℕ, ◌<◌, ◌≡◌, true, length, get_or}
use Rattle.std.proofs.Common.{◌∙◌}
use mathlib.Core.List.{List, [], ◌++◌}
use Rattle.residue.specs.declared.Outcome.{Outcome}
use Rattle.lists.specs.inner.Well.{well_filters}
use Rattle.lists.specs.Filters.{Filter}
use Rattle.states.specs.States.{State, question_of, step, sure_set, out_set}
use Rattle.states.specs.Runs.{asks}
use Rattle.tables.specs.Tables.{record_with}
use Rattle.tables.specs.inner.Records.{record_at, way_at}
use Rattle.tables.proofs.laws.Layout.{Spells, record_spells}
use Rattle.automaton.specs.Machines.{place_of, nexts_of, record_of}
use Rattle.automaton.proofs.laws.Records.{record_at_lem}
use Rattle.slots.specs.Words.{question_words}
use Rattle.machine.specs.Box.{box_of, states_of, records_in}
use Rattle.machine.proofs.laws.Lawful.{question_four, box_lawful, states_good}

module _ (fs : List Filter) (h : well_filters fs ≡ true) (rest : List ℕ) (n : ℕ) (below : n < length (states_of fs)) where
  abbrev pub numbered : State
  numbered = get_or (states_of fs) n []

  abbrev table : List ℕ
  table = records_in fs ++ rest

  abbrev nexts : Outcome → ℕ
  nexts = nexts_of (box_of fs) (states_of fs) numbered

  record_is : record_at table n ≡ record_with (question_words (question_of numbered)) nexts (sure_set fs numbered) (out_set fs numbered)
  unfolding records_in record_of
  record_is = record_at_lem (box_lawful fs) (states_of fs) (states_good fs h) rest n [] below

  pub front_spells : Spells table n (question_words (question_of numbered)) nexts (sure_set fs numbered) (out_set fs numbered)
  front_spells =
      record_spells (question_words (question_of numbered)) nexts (sure_set fs numbered) (out_set fs numbered) (question_four (question_of numbered)) table n record_is

  pub front_way : (o : Outcome) → asks (question_of numbered) ≡ true → way_at table n o ≡ place_of (box_of fs) (states_of fs) (step fs o numbered)
  unfolding nexts_of
  front_way o q = front_spells.way o ∙ rw q
