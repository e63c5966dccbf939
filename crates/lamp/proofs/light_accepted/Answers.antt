-- `lamp::light_accepted` meets its contract: the walk goes with the list's ranks and two states' words of its own.
-- Assumes nothing.
use Rattle.std.proofs.Common.{◌≡◌, ◌*◌, ◌≤◌, ℕ, List, arith, sym, ap, refl, ◌∙◌, Ok, length, take, replicate, length-take-le}
use Rattle.lists.specs.Filters.{max_filters}
use Rattle.lists.specs.laws.Accepted.{accepted_count}
use Rattle.lists.specs.Refusals.{counts}
use Rattle.slots.specs.laws.Counting.{filters_count}
use Rattle.slots.specs.Words.{filter_slot, slot_words}
use Rattle.lamp.proofs.light_accepted.Goals as goal

-- The words of n filters in front of those of a slot.
abbrev slot : List ℕ
slot = replicate slot_words 0

front : (n : ℕ) → n ≤ max_filters → length (take (filter_slot * n) slot) ≡ filter_slot * n
front n l = length-take-le (filter_slot * n) slot (omega arith)

pub slice_bounds-state-end : goal.slice_bounds-state-end
slice_bounds-state-end c = omega (arith, (accepted_count _ _ _ c.requires).2)

pub slice_bounds-lamp_from-end : goal.slice_bounds-lamp_from-end
slice_bounds-lamp_from-end c = sym (front _ (accepted_count _ _ _ c.requires).2)

pub slice_bounds-room-end : goal.slice_bounds-room-end
slice_bounds-room-end c = omega (arith, (accepted_count _ _ _ c.requires).2)

pub slice_bounds-lamp_from-end-2 : goal.slice_bounds-lamp_from-end-2
slice_bounds-lamp_from-end-2 c = sym (front _ (accepted_count _ _ _ c.requires).2)

pub lamp_from-requires-clause-lighting : goal.lamp_from-requires-clause-lighting
lamp_from-requires-clause-lighting c =
    let few = (accepted_count _ _ _ c.requires).2 in
    let n = filters_count _ _ (front _ few) in
    record {
      accepted = (c.args.counts.tests, c.requires ∙ ap (λ k. Ok (counts k c.args.counts.tests)) (sym n));
      source = front _ few ∙ ap (λ k. filter_slot * k) (sym n);
      target = refl;
    }
