-- The question and the sets are the state's.
-- Assumes nothing.
use Rattle.builder.proofs.Storing.{fresh_is}
use Rattle.builder.proofs.rooms.Builder.fresh.Goals as goal

pub returns : goal.returns
returns c = fresh_is c.args.self.now _ c.question_of.ensures c.sure_set.ensures c.out_set-out.ensures
