-- The question that the state is stepped by is its own.
-- Assumes nothing.
use Rattle.builder.proofs.Meeting.{steps_is}
use Rattle.builder.proofs.meet.step_into.Goals as goal

pub returns : goal.returns
returns c = steps_is c.args.ranks.now c.args.outcome c.question_of.result c.step_by.new.dst c.requires c.question_of.ensures c.step_by.ensures
