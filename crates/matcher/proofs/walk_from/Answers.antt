-- `matcher::walk_from` meets its contract. The loop's invariant: the walk from the record reached, with the questions left, answers the whole walk.
-- A record that ends the walk answers for it; a way goes on to the next record with one question fewer, a chain with one fewer for each link. Assumes nothing.
use native.Mathlib.Nat.{sub_self}
use native.Mathlib.Omega.{arith}
use mathlib.Core.Path.{◌≡◌, sym, ◌∙◌}
use lib.Dec.{lit<}
use borrow.Author.Rules.{rules}
use Rattle.lists.specs.Filters.{field_at}
use Rattle.std.specs.Prelude.{None, Some}
use Rattle.std.proofs.lemmas.Result.{err_from_is_err_and}
use Rattle.fields.specs.Seen.{reading_of, seen}
use Rattle.fields.specs.inner.Sight.{cut_set}
use Rattle.fields.proofs.laws.Cut.{seen_reading}
use Rattle.matcher.specs.inner.Records.{meets, word_in}
use Rattle.matcher.proofs.Linked.{walked_on}
use Rattle.matcher.proofs.Meeting.{unmet}
use Rattle.matcher.proofs.Steps.{Asking, ended, asking, lost, moved, way_absent, mark_absent, mark_stays, way_holds, way_fails, word_is}
use Rattle.matcher.proofs.walk_from.Goals as goal
use Rattle.matcher.proofs.walk_from.Goals.{Else-ends, In_default, In-Some}

-- A record that does not end the walk may be asked.
asks :
    (c : Else-ends) →
    Asking c.args.table.now.words.now c.args.table.now.states (seen c.args.sight.now.frame.now c.args.sight.now.port) c.args.allowance c.loop-at.at.left
    (meets (cut_set c.args.sight.now.frame.now c.args.sight.now.port) c.loop-at.met) c.loop-at.at.s
asks c = asking c.loop-at.invariant c.record-words.ensures (sym c.if-ends.ensures)

-- What its field reads.
lacks : (c : In_default) → reading_of (seen c.args.sight.now.frame.now c.args.sight.now.port (word_in c.record-words.result.now 1)) ≡ None
lacks c = seen_reading _ _ _ ∙ sym c.reading.ensures ∙ c.in_default.is

reads : (c : In-Some) → reading_of (seen c.args.sight.now.frame.now c.args.sight.now.port (word_in c.record-words.result.now 1)) ≡ Some c.in-Some.x
reads c = seen_reading _ _ _ ∙ sym c.reading.ensures ∙ c.in-Some.is

pub loop-at-init : goal.loop-at-init
loop-at-init c = let none_asked = sub_self c.args.allowance in
    record { inside = c.args.table.now.some; within = search rules; rest = rw (none_asked, unmet _) }

pub returns-then-ends : goal.returns-then-ends
returns-then-ends c = c.end.ensures ∙ rw c.marked.ensures (ended c.loop-at.invariant c.record-words.ensures (sym c.if-ends.ensures))

pub overflow_sub-at : goal.overflow_sub-at
overflow_sub-at c = omega (arith, asks (goal.at.overflow_sub-at c).Else-ends)

pub overflow_shl-met : goal.overflow_shl-met
overflow_shl-met c = omega (arith, (asks (goal.at.overflow_shl-met c).Else-ends).known, word_is _ _ c.record-words.ensures field_at (lit< tt))

pub returns-in_err-at : goal.returns-in_err-at
returns-in_err-at c =
    let err = err_from_is_err_and c.from_residual.result c.from_residual.ensures.1 in
    rw (err.1, err.2)
    (lost (asks (goal.at.returns-in_err-at c).Else-ends) (way_absent _ _ _ c.record-words.ensures (lacks (goal.at.returns-in_err-at c).In_default)) c.in_err-at.field-0.0 c.in_err-at.ensures)

pub loop-at-smaller-in_default : goal.loop-at-smaller-in_default
loop-at-smaller-in_default c = omega (arith, asks (goal.at.loop-at-smaller-in_default c).Else-ends)

pub loop-at-preserved-in_default : goal.loop-at-preserved-in_default
loop-at-preserved-in_default c =
    let asked = asks (goal.at.loop-at-preserved-in_default c).Else-ends in
    rw (mark_absent _ _ _ _ c.record-words.ensures _ asked.known) at
    (moved asked (way_absent _ _ _ c.record-words.ensures (lacks (goal.at.loop-at-preserved-in_default c).In_default)) c.in_ok-at.field-0 c.in_ok-at.ensures)

pub returns-in_err-at-2 : goal.returns-in_err-at-2
returns-in_err-at-2 c =
    let err = err_from_is_err_and c.from_residual-in_err-at-2.result c.from_residual-in_err-at-2.ensures.1 in
    rw (err.1, err.2)
    (lost (asks (goal.at.returns-in_err-at-2 c).Else-ends)
    (way_holds _ _ _ c.record-words.ensures (reads (goal.at.returns-in_err-at-2 c).In-Some) (sym c.if-holds.ensures)) c.in_err-at-2.field-0.0 c.in_err-at-2.ensures)

pub loop-at-smaller-then-holds : goal.loop-at-smaller-then-holds
loop-at-smaller-then-holds c = omega (arith, asks (goal.at.loop-at-smaller-then-holds c).Else-ends)

pub loop-at-preserved-then-holds : goal.loop-at-preserved-then-holds
loop-at-preserved-then-holds c =
    let read = reads (goal.at.loop-at-preserved-then-holds c).In-Some in
    rw (mark_stays _ _ _ c.record-words.ensures read _) at
    (moved (asks (goal.at.loop-at-preserved-then-holds c).Else-ends)
    (way_holds _ _ _ c.record-words.ensures read (sym c.if-holds.ensures)) c.in_ok-at-2.field-0 c.in_ok-at-2.ensures)

pub returns-in_err-next : goal.returns-in_err-next
returns-in_err-next c =
    let err = err_from_is_err_and c.from_residual-in_err-next.result c.from_residual-in_err-next.ensures.1 in
    rw (err.1, err.2)
    (lost (asks (goal.at.returns-in_err-next c).Else-ends)
    (way_fails _ _ _ c.record-words.ensures (reads (goal.at.returns-in_err-next c).In-Some) (sym c.if-holds.ensures)) c.in_err-next.field-0.0 c.in_err-next.ensures)

pub invariant_of-follow : goal.invariant_of-follow
invariant_of-follow c =
    omega (arith, (asks (goal.at.invariant_of-follow c).Else-ends).known, word_is _ _ c.record-words.ensures field_at (lit< tt))

pub loop-at-smaller : goal.loop-at-smaller
loop-at-smaller c = omega (arith, asks (goal.at.loop-at-smaller c).Else-ends, c.follow-at.ensures)

pub loop-at-preserved : goal.loop-at-preserved
loop-at-preserved c =
    let read = reads (goal.at.loop-at-preserved c).In-Some in
    let next =
    rw (mark_stays _ _ _ c.record-words.ensures read _) at
    (moved (asks (goal.at.loop-at-preserved c).Else-ends)
    (way_fails _ _ _ c.record-words.ensures read (sym c.if-holds.ensures)) c.in_ok-next.next c.in_ok-next.ensures) in
    walked_on next read c.follow-at.ensures
