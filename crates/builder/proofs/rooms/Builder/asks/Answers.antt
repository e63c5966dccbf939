-- The first word of the question is not 0 where there is one to ask.
-- Assumes nothing.
use Rattle.builder.proofs.Finding.{asked_is}
use Rattle.builder.proofs.rooms.Builder.asks.Goals as goal

pub returns : goal.returns
returns c = asked_is c.args.self.now c.args.at c.question_of.result c.requires (rw c.slot.ensures at c.question_of.ensures)
