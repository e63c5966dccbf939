-- `fields::read_field` meets its contract: what a header that was read answers for a number is that field of the frame.
-- Assumes nothing.
use Prim.Native.Nat.{ℕ}
use mathlib.Core.Path.{ap, ◌∙◌}
use lib.ListN.{length}
use Rattle.fields.specs.declared.Header.{Header}
use Rattle.fields.specs.declared.Seen.{Seen}
use Rattle.fields.proofs.laws.CutSet.{seen_once}
use Rattle.fields.proofs.read_field.Goals as goal

pub cut_set-requires : goal.cut_set-requires
cut_set-requires c = (_, c.read.ensures.set)

pub returns : goal.returns
returns c = c.seen.ensures ∙ ap (λ (g : ℕ → Seen). g c.args.number) (seen_once (ap (λ (h : Header). length h.values) c.new-header.ensures) c.read.ensures c.cut_set.ensures)
