-- `sets::put` meets its contract. The new bit stands above the set's, so that `|` adds it.
-- Assumes nothing.
use Rattle.std.proofs.Common.{arith, lit<}
use Rattle.std.specs.Int.Bits.{or_shifted_r}
use Rattle.std.proofs.lemmas.Nat.{shl_whole}
use Rattle.sets.specs.Sets.{set_bits}
use Rattle.sets.proofs.put.Goals as goal

pub returns-then-b : goal.returns-then-b
returns-then-b c = rw (c.if-b.true, shl_whole 1 1 c.args.i set_bits (lit< tt) (omega arith)) (or_shifted_r 1 c.args.i c.args.set c.requires.1)
