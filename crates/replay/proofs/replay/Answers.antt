-- A part more goes on with what the parts before it left; at the end the answer is theirs.
use Rattle.std.proofs.Common.{rules, refl, [], ◌∷◌, ◌++◌}
use Rattle.captures.specs.Parts.{fed}
use Rattle.replay.proofs.Reading.{read_so, fed_on, answer_so}
use Rattle.replay.proofs.replay.Goals as goal

pub loop-init : goal.loop-init
unfolding fed
loop-init g c = (search rules, ([], refl))

pub returns-then-end-buffer : goal.returns-then-end-buffer
returns-then-end-buffer g c =
    let met = c.loop.invariant.1 in
    let filled = c.in_ok-end.ensures.within in
    let w = read_so _ _ _ _ _ _ _ _ _ _ filled.0 filled.1 c.fill.ensures.kept c.go_on-pause.ensures in
    (met.0 ++ (w.part ∷ []), answer_so _ _ _ _ _ _ _ _ w.fits (fed_on _ _ _ _ _ _ _ _ _ _ met.1 w) c.finish.ensures)

pub loop-preserved : goal.loop-preserved
loop-preserved g c =
    let met = c.loop.invariant.1 in
    let filled = c.in_ok-end.ensures.within in
    let w = read_so _ _ _ _ _ _ _ _ _ _ filled.0 filled.1 c.fill.ensures.kept c.go_on-pause.ensures in
    (w.fits, (met.0 ++ (w.part ∷ []), fed_on _ _ _ _ _ _ _ _ _ _ met.1 w))
