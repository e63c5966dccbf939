-- The state and its record are written into the lent tails behind the states and records there are.
-- Assumes nothing.
use Rattle.builder.proofs.Storing.{stored_both}
use Rattle.builder.proofs.rooms.Builder.store.Goals as goal

pub returns-clause-stored : goal.returns-clause-stored
returns-clause-stored c = stored_both c.args.self.now c.args.used _ _ _ c.requires c.copy_into.ensures c.write_fresh.ensures
