use Rattle.std.proofs.Common.{ap, rules, ◌∙◌}
use borrow.Author.Tests.{tests}
use Rattle.residue.specs.Tests.{holds_of}
use Rattle.scanner.proofs.Scanning.{held_by}
use Rattle.scanner.proofs.holds.Goals as goal

pub returns : goal.returns
returns c = held_by _ _ _ _ c.is_some_and.ensures (λ x h. search (rules, tests)) ∙ ap (holds_of _) c.reading.ensures
