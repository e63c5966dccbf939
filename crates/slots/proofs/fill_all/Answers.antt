-- `slots::fill_all` meets its contract: the filters that are written, then those that are left of the list, are all of them.
-- Assumes nothing.
use Rattle.std.proofs.Common.{◌*◌, ◌-◌, ◌<◌, ◌≡◌, arith, refl, ap, ◌∙◌, take, drop, length, length-take, length-drop}
use Rattle.lists.specs.Filters.{test_words, count_word}
use Rattle.lists.specs.laws.Faults.{NoFault}
use Rattle.lists.specs.laws.Walking.{rest_start, rest_sound, rest_below, rest_next}
use Rattle.slots.specs.Words.{filter_slot}
use Rattle.slots.specs.Asking.{filters_in}
use Rattle.slots.proofs.Parts.{done}
use Rattle.slots.proofs.Starting.{fill_turn, fill_end}
use Rattle.slots.proofs.fill_all.Goals as goal
use Rattle.slots.proofs.fill_all.Goals.{In-Some}

-- A filter without a fault begins here, and there is room for it.
more : (c : In-Some) → c.in-Some.i < filters_in c.args.dst.now
more c = let s = c.in-Some.ensures.steps in omega (arith, s.1, rest_below c.args.list.now _ _ _ c.loop-i.invariant.rest s.0.0)

sound : (c : In-Some) → NoFault c.in-Some.words.now
sound c = let s = c.in-Some.ensures.steps in rw s.0.1 (rest_sound c.args.list.now _ _ _ c.loop-i.invariant.rest s.0.0)

pub loop-i-init : goal.loop-i-init
loop-i-init c =
    rw (c.into_iter-i-iterator.ensures.into_iter_gives, c.enumerate-i-items.ensures.source, c.enumerate-i-items.ensures.count)
    (record { rest = rw c.new.ensures (rest_start c.args.list.now _ c.requires.accepted.0 c.requires.accepted.1); whole = refl })

pub overflow_mul-at : goal.overflow_mul-at
overflow_mul-at c = omega (arith, more (goal.at.overflow_mul-at c).In-Some)

pub slice_bounds-fill-end : goal.slice_bounds-fill-end
slice_bounds-fill-end c = let s = sound (goal.at.slice_bounds-fill-end c).In-Some in omega (arith, s.whole, c.filter_words-end.ensures, c.count_at.ensures)

pub overflow_add-at : goal.overflow_add-at
overflow_add-at c = omega (arith, more (goal.at.overflow_add-at c).In-Some)

pub offset_bounds-dst-at : goal.offset_bounds-dst-at
offset_bounds-dst-at c = omega (arith, more (goal.at.offset_bounds-dst-at c).In-Some)

pub slice_bounds-fill-end-in-loop-i : goal.slice_bounds-fill-end-in-loop-i
slice_bounds-fill-end-in-loop-i c = omega (arith, more (goal.at.slice_bounds-fill-end-in-loop-i c).In-Some)

pub fill-requires-clause-few : goal.fill-requires-clause-few
fill-requires-clause-few c = let s = sound (goal.at.fill-requires-clause-few c).In-Some in simp (length-take, length-drop) (omega (arith, s.count, c.filter_words-end.ensures, c.count_at.ensures))

pub loop-i-preserved : goal.loop-i-preserved
loop-i-preserved c =
    let s = c.in-Some.ensures.steps in
    let below = more (goal.at.loop-i-preserved c).In-Some in
    let one : length c.fill.new.dst ≡ filter_slot = omega arith in
    let width : c.filter_words-end.result - 3 ≡ test_words * count_word c.in-Some.words.now = omega (arith, c.filter_words-end.ensures, c.count_at.ensures) in
    let tests = ap (λ k. take k (drop 3 c.in-Some.words.now)) width ∙ ap (λ ws. take (test_words * count_word ws) (drop 3 ws)) s.0.1 in
    rw (s.0.2, s.2, s.1)
    (record {
      rest = rest_next c.args.list.now _ _ _ c.loop-i.invariant.rest s.0.0;
      whole = fill_turn c.args.list.now _ _ _ c.loop-i.invariant.rest s.0.0 c.loop-i.dst c.fill.new.dst _ _ (c.loop-i.auto.dst ∙ c.requires.target) one tests c.fill.ensures c.loop-i.invariant.whole;
    })

pub returns : goal.returns
returns c =
    let e = fill_end c.args.list.now _ _ _ c.loop-i.invariant.rest c.in-None.ensures.steps.0 in
    done (filters_in c.args.dst.now) _ c.loop-i.dst _ _ (c.loop-i.auto.dst ∙ c.requires.target) (omega (arith, e.0)) e.1 c.loop-i.invariant.whole
