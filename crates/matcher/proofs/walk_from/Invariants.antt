-- `matcher::walk_from` meets its contract. The loop's invariant: the walk from the record reached, with the questions left, answers the whole walk.
-- A record that ends the walk answers for it; a way goes on to the next record with one question fewer, a chain with one fewer for each link. Assumes nothing.
use Rattle.fields.specs.Seen.{seen}
use Rattle.fields.specs.inner.Sight.{cut_set}
use Rattle.matcher.specs.inner.Records.{meets}
use Rattle.matcher.proofs.Steps.{Walking}
use Rattle.matcher.proofs.walk_from.Given as goal

abbrev pub invariant-loop-at : goal.invariant-loop-at
invariant-loop-at l =
    Walking l.table.words.now l.table.states (seen l.sight.frame.now l.sight.port) l.allowance l.at.left
    (meets (cut_set l.sight.frame.now l.sight.port) l.met) l.at.s

abbrev pub decreases-loop-at : goal.decreases-loop-at
decreases-loop-at l = l.at.left
