-- A refused text has its answer; else the capture is replayed through its list, and the tallies stand at the front of the counts.
use Rattle.std.proofs.Common.{arith, refl, sym}
use Rattle.std.proofs.lemmas.List.{length-take-le}
use Rattle.replay.proofs.Reading.{refused_text, words_fit, tallies_fit, ready_text, front_fits}
use Rattle.replay.proofs.replay_text.Goals as goal

pub slice_bounds-words-end : goal.slice_bounds-words-end
slice_bounds-words-end g c = words_fit _ _ _ _ c.in-Ok.ensures.0 c.in-Ok.ensures.1 _ refl

pub slice_bounds-list-end : goal.slice_bounds-list-end
slice_bounds-list-end g c = sym (length-take-le _ _ (words_fit _ _ _ _ c.in-Ok.ensures.0 c.in-Ok.ensures.1 _ refl))

pub slice_bounds-tallies-end : goal.slice_bounds-tallies-end
slice_bounds-tallies-end g c = tallies_fit _ _ _ _ c.in-Ok.ensures.0 c.in-Ok.ensures.1 _ refl _ c.requires

pub slice_bounds-tallies-end-in-Ok : goal.slice_bounds-tallies-end-in-Ok
slice_bounds-tallies-end-in-Ok g c = sym (length-take-le _ _ (tallies_fit _ _ _ _ c.in-Ok.ensures.0 c.in-Ok.ensures.1 _ refl _ c.requires))

pub returns-in-Err : goal.returns-in-Err
returns-in-Err g c = (omega arith, rw c.into.ensures (refused_text _ _ _ _ c.in-Err.ensures.0 c.in-Err.ensures.1 _ refl))

pub returns-in_ok-answer-in-Ok : goal.returns-in_ok-answer-in-Ok
returns-in_ok-answer-in-Ok g c =
    let p = c.in-Ok.ensures.0 in
    let q = c.in-Ok.ensures.1 in
    let long = c.replay_named.auto.counts in (
      front_fits _ _ _ (tallies_fit _ _ _ _ p q _ refl _ c.requires) long,
      ready_text _ _ _ _ p q _ refl _ _ _ c.requires long c.in_ok-answer-in-Ok.ensures,
    )
