-- `captures::Reading::skip` meets its contract: as many bytes as there are, or all that are left to skip. Assumes nothing.
use Rattle.std.proofs.Common.{arith}
use Rattle.captures.specs.laws.Turns.{skip_turn}
use Rattle.captures.proofs.Reading.skip.Goals as goal

pub returns : goal.returns
returns c = λ fs ts. record { some = omega arith; within = omega arith; keeps = skip_turn fs _ _ _ _ ts _ (omega arith) (omega arith) }
