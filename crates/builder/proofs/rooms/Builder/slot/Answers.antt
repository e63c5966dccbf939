-- The part that is lent are the words of the state.
-- Assumes nothing.
use Rattle.builder.proofs.Finding.{slot_part}
use Rattle.builder.proofs.rooms.Builder.slot.Goals as goal

pub returns : goal.returns
returns c = slot_part c.args.self.now.words.now c.args.self.now.scratch.now c.args.at c.args.self.now.whole
