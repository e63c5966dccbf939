-- `lamp::lamp_from` meets its contract: the words are those of the state that the walk has reached, and what is left of the walk answers the whole.
-- Assumes nothing.
use Rattle.std.proofs.Common.{arith, sym, ap, ◌∙◌, Err, get_or}
use Rattle.fields.specs.Header.{reading_at}
use Rattle.lists.specs.Filters.{filters_of}
use Rattle.lists.specs.laws.Accepted.{accepted_count, accepted_well}
use Rattle.slots.specs.Asking.{filters_in}
use Rattle.slots.specs.laws.Counting.{whole_state}
use Rattle.slots.specs.laws.Written.{start_accepted}
use Rattle.tables.proofs.laws.Layout.{next_within}
use Rattle.lamp.proofs.Steps.{copied, state_counts, walking_start, refused_here, lit_here, dark_here, Asking, asking, gone_astray, fewer_left, gone_on}
use Rattle.lamp.proofs.lamp_from.Goals as goal
use Rattle.lamp.proofs.lamp_from.Goals.{Else-question-eq0}

-- The walk asks on: there is a question, and its record asks it.
asks_on :
    (c : Else-question-eq0) →
    Asking (filters_of c.args.list.now) c.args.table.now.words.now c.args.table.now.states (reading_at c.args.header.now.present c.args.header.now.values) c.loop-record.state c.loop-record.asked c.loop-record.at c.question_of-question.result
asks_on c =
    let n = state_counts _ c.args.state.now _ _ c.requires.lighting.accepted.1 (omega arith) in
    asking _ _ _ _ c.loop-record.invariant n.0 n.1 _ c.question_of-question.ensures _ c.record-record.ensures (sym c.asks-right.ensures ∙ c.if-is_other.false) _ c.held_set-held.ensures c.if-is_lit.false c.if-question-eq0.false

pub start_into-requires-clause-ranked : goal.start_into-requires-clause-ranked
start_into-requires-clause-ranked c = let count = accepted_count _ _ _ c.requires.lighting.accepted.1 in omega (arith, count.2)

pub loop-record-init : goal.loop-record-init
loop-record-init c =
    walking_start _ _ _ _ _ (accepted_well _ _ _ c.requires.lighting.accepted.1) c.args.table.now.some
    ((rw c.requires.ranked at c.start_into.ensures) ∙ start_accepted _ _ _ c.requires.lighting.accepted.1)

pub returns-then-is_other : goal.returns-then-is_other
returns-then-is_other c =
    let n = state_counts _ c.args.state.now _ _ c.requires.lighting.accepted.1 (omega arith) in
    ap Err c.into.ensures ∙
    refused_here _ _ _ _ c.loop-record.invariant n.0 n.1 _ c.question_of-question.ensures _ c.record-record.ensures (sym c.asks-right.ensures ∙ c.if-is_other.true)

pub held_set-held-requires : goal.held_set-held-requires
held_set-held-requires c =
    let count = accepted_count _ _ _ c.requires.lighting.accepted.1 in
    whole_state (filters_in c.args.state.now) _ count.2 (omega (arith, c.requires.lighting.source))

pub returns-then-is_lit : goal.returns-then-is_lit
returns-then-is_lit c =
    let n = state_counts _ c.args.state.now _ _ c.requires.lighting.accepted.1 (omega arith) in
    lit_here _ _ _ _ c.loop-record.invariant n.0 n.1 _ c.question_of-question.ensures _ c.record-record.ensures (sym c.asks-right.ensures ∙ c.if-is_other.false) _ c.held_set-held.ensures c.if-is_lit.true

pub returns-then-question-eq0 : goal.returns-then-question-eq0
returns-then-question-eq0 c =
    let n = state_counts _ c.args.state.now _ _ c.requires.lighting.accepted.1 (omega arith) in
    dark_here _ _ _ _ c.loop-record.invariant n.0 n.1 _ c.question_of-question.ensures _ c.record-record.ensures (sym c.asks-right.ensures ∙ c.if-is_other.false) _ c.held_set-held.ensures c.if-is_lit.false c.if-question-eq0.true

pub offset_bounds-record-next_at : goal.offset_bounds-record-next_at
offset_bounds-record-next_at c = omega (arith, c.next_at.ensures, next_within c.way_of-way.result)

pub bounds-record-next_at : goal.bounds-record-next_at
bounds-record-next_at c = omega (arith, c.next_at.ensures, next_within c.way_of-way.result)

pub returns-then-table-at : goal.returns-then-table-at
returns-then-table-at c =
    ap Err c.into-then-table-at.ensures ∙
    gone_astray (asks_on (goal.at.returns-then-table-at c).Else-question-eq0) _ c.way_of-way.ensures _ c.record-record.ensures _ (ap (λ j. get_or c.record-record.result.now j 0) c.next_at.ensures) c.if-table-at.true

pub step_by-requires-clause-both : goal.step_by-requires-clause-both
step_by-requires-clause-both c =
    let count = accepted_count _ _ _ c.requires.lighting.accepted.1 in
    record {
      source = whole_state (filters_in c.args.state.now) _ count.2 (omega (arith, c.requires.lighting.source));
      target = omega (arith, c.requires.lighting.target);
    }

pub step_by-requires-clause-ranked : goal.step_by-requires-clause-ranked
step_by-requires-clause-ranked c = let count = accepted_count _ _ _ c.requires.lighting.accepted.1 in omega (arith, count.2)

pub overflow_add-asked : goal.overflow_add-asked
overflow_add-asked c =
    let tests = accepted_count _ _ _ c.requires.lighting.accepted.1 in
    omega (arith, fewer_left (asks_on (goal.at.overflow_add-asked c).Else-question-eq0), tests.1, tests.2, tests.3)

pub loop-record-smaller : goal.loop-record-smaller
loop-record-smaller c = omega (arith, fewer_left (asks_on (goal.at.loop-record-smaller c).Else-question-eq0))

pub loop-record-preserved : goal.loop-record-preserved
loop-record-preserved c =
    gone_on (asks_on (goal.at.loop-record-preserved c).Else-question-eq0) _ c.way_of-way.ensures _ c.record-record.ensures _ (ap (λ j. get_or c.record-record.result.now j 0) c.next_at.ensures) _ c.requires.ranked c.if-table-at.false _
    (c.copy_into.ensures ∙ copied _ _ (omega arith) ∙ c.step_by.ensures)
