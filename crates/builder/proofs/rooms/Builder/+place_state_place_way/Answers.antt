-- Each way out is a law of specs/laws/WaysPlaced, of the builder that the function began with.
-- Assumes nothing.
use mathlib.Core.Path.{◌≡◌, ◌∙◌, subst, sym}
use mathlib.Core.Bool.{Bool, true}
use mathlib.Core.List.{List}
use native.Mathlib.Omega.{arith}
use Prim.Native.Nat.{ℕ, ◌<◌}
use Rattle.slots.specs.inner.Slots.{asks_in}
use Rattle.machine.specs.inner.Remaining.{GoodWords}
use Rattle.builder.specs.inner.Promises.{Asking}
use Rattle.builder.specs.laws.WaysPlaced as P
use Rattle.builder.proofs.Following.{same_filters, same_on, ready_on, asking_on, falls_on}
use Rattle.builder.proofs.rooms.Builder.+place_state_place_way.Goals as goal

-- What is below the caller's measure is below its value.
below : {m j t : ℕ} → m < j → j ≡ t → m < t
below {m} h e = subst (λ (k : ℕ). m < k) e h

-- The state asks, by the function that was called.
asked : {n : ℕ} {ranks w : List ℕ} {r : Bool} → GoodWords n ranks w → r ≡ asks_in n w → r ≡ true → Asking n ranks w
asked good e h = record { good = good; asks = sym e ∙ h }

pub place_state-returns-then-not-asks-clause-placed : goal.place_state-returns-then-not-asks-clause-placed
place_state-returns-then-not-asks-clause-placed t c = P.none_asked c.args.self.now.filters c.requires.ready (sym c.asks.ensures ∙ c.if-not-asks.true)

pub place_state-returns-in_err-first-clause-placed : goal.place_state-returns-in_err-first-clause-placed
place_state-returns-in_err-first-clause-placed t c =
    let asking = asked c.requires.good c.asks.ensures c.if-not-asks.false in
    rw c.from_residual.ensures (P.first_slotless c.args.self.now.filters c.requires.ready asking c.in_err-first.ensures.placed)

pub place_state-place_way-requires-2 : goal.place_state-place_way-requires-2
place_state-place_way-requires-2 t c =
    let asking = asked c.requires.good c.asks.ensures c.if-not-asks.false in
    let same = c.in_ok-first.ensures.same in
    let first = c.in_ok-first.ensures.placed in
    let inside = c.requires.ready.inside in
    let more = first.grows.0 in
    let kept = P.slot_first c.args.self.now.filters c.requires.ready asking first in (
      below (falls_on same c.args.at kept) c.decreases,
      (
        ready_on same (omega arith) first.grows.1 (P.told_second c.args.self.now.filters c.requires.ready asking first),
        asking_on same c.args.at kept asking,
      ),
    )

pub place_state-returns-in_err-second-clause-placed : goal.place_state-returns-in_err-second-clause-placed
place_state-returns-in_err-second-clause-placed t c =
    let asking = asked c.requires.good c.asks.ensures c.if-not-asks.false in
    let same = c.in_ok-first.ensures.same in
    let second = rw (same_filters same, same.slots, same.ranks) at c.in_err-second.ensures.placed in
    rw c.from_residual-in_err-second.ensures (P.second_slotless c.args.self.now.filters c.requires.ready asking c.in_ok-first.ensures.placed second)

pub place_state-place_way-requires-3 : goal.place_state-place_way-requires-3
place_state-place_way-requires-3 t c =
    let asking = asked c.requires.good c.asks.ensures c.if-not-asks.false in
    let before = c.in_ok-first.ensures.same in
    let same = same_on before c.in_ok-second.ensures.same in
    let first = c.in_ok-first.ensures.placed in
    let second = rw (same_filters before, before.slots, before.ranks) at c.in_ok-second.ensures.placed in
    let inside = c.requires.ready.inside in
    let one = first.grows.0 in
    let two = second.grows.0 in
    let kept = P.slot_second c.args.self.now.filters c.requires.ready asking first second in (
      below (falls_on same c.args.at kept) c.decreases,
      (
        ready_on same (omega arith) second.grows.1 (P.told_third c.args.self.now.filters c.requires.ready asking first second),
        asking_on same c.args.at kept asking,
      ),
    )

pub place_state-returns-clause-placed : goal.place_state-returns-clause-placed
place_state-returns-clause-placed t c =
    let asking = asked c.requires.good c.asks.ensures c.if-not-asks.false in
    let before = c.in_ok-first.ensures.same in
    let same = same_on before c.in_ok-second.ensures.same in
    let second = rw (same_filters before, before.slots, before.ranks) at c.in_ok-second.ensures.placed in
    let third = rw (same_filters same, same.slots, same.ranks) at c.place_way-3.ensures.placed in
    P.third c.args.self.now.filters c.requires.ready asking c.in_ok-first.ensures.placed second third

pub place_way-returns-in_err-number-clause-placed : goal.place_way-returns-in_err-number-clause-placed
place_way-returns-in_err-number-clause-placed t c = rw c.from_residual.ensures (P.placed_slotless c.args.o c.requires.ready c.in_err-number.ensures.met)

pub place_way-place_state-requires : goal.place_way-place_state-requires
place_way-place_state-requires t c =
    let same = c.in_ok-number.ensures.same in
    let met = rw c.in-New.is at c.in_ok-number.ensures.met in
    let asking = c.requires.asking in
    let room = met.1 in (
      below (rw (same_filters same) (P.state_less c.args.o c.requires.ready asking _ _ met)) c.decreases,
      (
        ready_on same (omega arith) (omega arith) (P.told_new c.args.o c.requires.ready asking _ _ met),
        rw (same_filters same, same.ranks) (P.good_new c.args.o c.requires.ready asking _ _ met),
      ),
    )

pub place_way-returns-in_err-now-in-New-clause-placed : goal.place_way-returns-in_err-now-in-New-clause-placed
place_way-returns-in_err-now-in-New-clause-placed t c =
    let same = c.in_ok-number.ensures.same in
    let met = rw c.in-New.is at c.in_ok-number.ensures.met in
    let state = rw (same_filters same, same.slots, same.ranks) at c.in_err-now-in-New.ensures.placed in
    rw c.from_residual-in_err-now-in-New.ensures (P.placed_new_slotless c.args.o c.requires.ready c.requires.asking _ _ met state)

pub place_way-returns-in-Old-clause-placed : goal.place_way-returns-in-Old-clause-placed
place_way-returns-in-Old-clause-placed t c = P.placed_old c.args.o c.requires.ready (rw c.in-Old.is at c.in_ok-number.ensures.met) c.put_next.ensures

pub place_way-returns-in_ok-now-in-New-clause-placed : goal.place_way-returns-in_ok-now-in-New-clause-placed
place_way-returns-in_ok-now-in-New-clause-placed t c =
    let same = c.in_ok-number.ensures.same in
    let met = rw c.in-New.is at c.in_ok-number.ensures.met in
    let state = rw (same_filters same, same.slots, same.ranks) at c.in_ok-now-in-New.ensures.placed in
    P.placed_new c.args.o c.requires.ready c.requires.asking _ _ met state c.put_next-in-New.ensures
