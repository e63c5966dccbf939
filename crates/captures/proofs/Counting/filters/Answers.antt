-- `captures::Counting::filters` meets its contract: an accepted list has no more filters than there may be. Assumes nothing.
use Rattle.lists.specs.laws.Accepted.{accepted_count}
use Rattle.captures.proofs.Counting.filters.Goals as goal

pub returns-clause-few : goal.returns-clause-few
returns-clause-few c = (accepted_count _ _ _ c.args.self.now.accepted).2
