-- `slots::start_into` meets its contract. Every filter with all its tests, then closed.
-- Assumes nothing.
use Rattle.std.proofs.Common.{arith}
use Rattle.lists.specs.laws.Accepted.{accepted_count}
use Rattle.slots.proofs.start_into.Goals as goal

pub close-requires-clause-whole : goal.close-requires-clause-whole
close-requires-clause-whole c = record { few = omega (arith, (accepted_count c.args.list.now _ c.requires.starts.accepted.0 c.requires.starts.accepted.1).2); whole = omega arith }
