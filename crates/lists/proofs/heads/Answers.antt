use Rattle.std.proofs.Common.{arith}
use Rattle.lists.proofs.Columns.{partway_start, partway_turn, partway_end}
use Rattle.lists.proofs.heads.Goals as goal

pub loop-words-init : goal.loop-words-init
loop-words-init c =
    rw (c.into_iter-words-iterator.ensures.into_iter_gives, c.take-words-items.ensures.source)
    (omega (arith, c.take-words-items.ensures.count), rw c.new.ensures (partway_start c.args.list.now c.args.ranks.now c.told-ranks))

pub loop-words-preserved : goal.loop-words-preserved
loop-words-preserved c =
    let s = c.in-Some.ensures.steps in (
      omega (arith, s.1, c.loop-words.invariant.0),
      rw s.0.2
          (partway_turn c.args.list.now _ c.loop-words.ranks c.loop-words.n c.of.result (omega (arith, s.1, c.loop-words.invariant.0)) s.0.0 (rw s.0.1 at c.of.ensures) c.loop-words.invariant.1),
    )

pub returns : goal.returns
returns c =
    let e = c.loop-words.invariant.0 in
    partway_end c.args.list.now _ c.loop-words.ranks c.loop-words.n (λ h. c.in-None.ensures.steps (omega (arith, e))) (omega (arith, e)) c.loop-words.invariant.1
