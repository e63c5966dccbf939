-- The next filter begins at the place, and one more filter is one more bit.
use Rattle.std.proofs.Common.{◌+◌, ◌-◌, ◌*◌, ◌^◌, ◌≡◌, ℕ, Bool, List, refl, sym, ap, ap₂, ◌∙◌, le_refl, arith, length, take, drop, length-drop, take_all}
use Rattle.sets.specs.Sets.{bit, set_of, tally}
use Rattle.sets.specs.laws.Members.{tally_bound, tally_put}
use Rattle.fields.specs.Header.{reading_at}
use Rattle.lists.specs.Filters.{filters_of}
use Rattle.lists.specs.Ranks.{fires}
use Rattle.lists.specs.laws.Accepted.{accepted_count}
use Rattle.lists.specs.laws.Walking.{at_start, left, at_here, at_next}
use Rattle.scanner.proofs.Scanning.{fires_here}
use Rattle.scanner.proofs.fires_set.Goals as goal

pub loop-i-init : goal.loop-i-init
unfolding set_of tally
loop-i-init c = record { within = omega arith; here = at_start _ _ _ c.requires.1; fired = refl }

-- The words from a place on.
part : (ws : List ℕ) (at : ℕ) → take (length ws - at) (drop at ws) ≡ drop at ws
part ws at = take_all _ _ (omega (arith, length-drop at ws))

pub all_hold-requires : goal.all_hold-requires
all_hold-requires c =
    let h = at_here _ _ c.loop-i.i c.loop-i.at c.loop-i.invariant.here c.loop-i-test.true in
    rw (part c.args.list.now c.loop-i.at) (omega (arith, length-drop c.loop-i.at c.args.list.now, h.whole))

pub overflow_cast-i : goal.overflow_cast-i
overflow_cast-i c = omega (arith, c.loop-i-test.true, (accepted_count _ _ _ c.requires.1).2)

pub put-set-requires : goal.put-set-requires
put-set-requires c = (
  omega (arith, c.loop-i-test.true, (accepted_count _ _ _ c.requires.1).2),
  rw c.loop-i.invariant.fired (tally_bound c.loop-i.i c.loop-i.i _ (le_refl c.loop-i.i)),
)

pub bounds-words-2 : goal.bounds-words-2
bounds-words-2 c =
    let h = at_here _ _ c.loop-i.i c.loop-i.at c.loop-i.invariant.here c.loop-i-test.true in
    rw (part c.args.list.now c.loop-i.at) (omega (arith, length-drop c.loop-i.at c.args.list.now, h.head))

pub loop-i-preserved : goal.loop-i-preserved
loop-i-preserved c =
    let i = c.loop-i.i in
    let at = c.loop-i.at in
    let h = at_here _ _ i at c.loop-i.invariant.here c.loop-i-test.true in
    let f = fires (filters_of c.args.list.now) (reading_at c.args.header.now.present c.args.header.now.values) in
    let w = (rw (part c.args.list.now at) at c.filter_words-at.ensures) in
    let e = (rw (part c.args.list.now at) at c.all_hold.ensures) ∙
    fires_here _ c.args.list.now c.args.n i _ (accepted_count _ _ _ c.requires.1).0 (left _ _ i at c.loop-i.invariant.here) (omega (arith, length-drop at c.args.list.now, h.whole)) in
    record {
      within = omega (arith, h.whole, w);
      here = rw w (at_next c.args.list.now c.args.n i at c.loop-i.invariant.here c.loop-i-test.true);
      fired = c.put-set.ensures ∙ ap₂ (λ (x : Bool) (y : ℕ). bit x * 2 ^ i + y) e c.loop-i.invariant.fired ∙ sym (tally_put i f);
    }

pub returns : goal.returns
returns c =
    let f = fires (filters_of c.args.list.now) (reading_at c.args.header.now.present c.args.header.now.values) in
    let e : c.loop-i.i ≡ length (filters_of c.args.list.now) = omega (arith, (accepted_count _ _ _ c.requires.1).0) in
    c.loop-i.invariant.fired ∙ ap (λ (k : ℕ). set_of (tally k f)) e
