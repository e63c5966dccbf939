-- `lamp::lamp_from` meets its contract. The loop's invariant: the words are those of the state that the walk has reached, and what is left of the walk answers the whole.
-- A turn goes on by the state's own question, so one test fewer remains. Assumes nothing.
use Rattle.std.proofs.Common.{◌-◌}
use Rattle.fields.specs.Header.{reading_at}
use Rattle.lists.specs.Filters.{filters_of, tests_in}
use Rattle.lamp.proofs.Steps.{Walking}
use Rattle.lamp.proofs.lamp_from.Given as goal

abbrev pub invariant-loop-record : goal.invariant-loop-record
invariant-loop-record l = Walking (filters_of l.list) l.table.words.now l.table.states (reading_at l.header.present l.header.values) l.state l.asked l.at

abbrev pub decreases-loop-record : goal.decreases-loop-record
decreases-loop-record l = tests_in (filters_of l.list) - l.asked
