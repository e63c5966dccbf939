-- `matcher::Sight::reading` meets its contract: a header that was read once reads every field as the frame has it.
-- Assumes nothing.
use Rattle.std.specs.Prelude.{refl}
use Rattle.std.proofs.Common.{ap, ◌∙◌}
use Rattle.fields.proofs.laws.Header.{read_once}
use Rattle.matcher.proofs.Sight.reading.Goals as goal

pub returns : goal.returns
returns c = c.reading.ensures ∙ ap (λ v. v c.args.number) (read_once refl c.args.self.now.is_read)
