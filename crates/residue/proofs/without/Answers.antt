-- `residue::without` meets its contract. And with the complement at 32 bits leaves the bits outside: `and_not`.
-- Assumes nothing.
use borrow.Author.Rules.{rules}
use mathlib.Core.Path.{refl}
use Prim.Native.Nat.{◌^◌, ◌-◌}
use Rattle.residue.specs.laws.Bits.{and_not}
use Rattle.residue.proofs.without.Goals as goal

pub returns : goal.returns
returns c = and_not 32 (2 ^ 32 - 1) refl c.args.m c.args.k (search rules) (search rules)
