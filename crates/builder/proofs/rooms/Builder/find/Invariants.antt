-- None of the first states is the one sought, neither those compared nor those whose records do not agree.
use Rattle.std.proofs.Common.{◌≤◌, ◌-◌}
use Rattle.builder.specs.inner.Builders.{filters}
use Rattle.builder.proofs.Finding.{Unmet}
use Rattle.builder.proofs.rooms.Builder.find.Given as goal

abbrev pub invariant-loop-next : goal.invariant-loop-next
invariant-loop-next l = record { within : l.from ≤ l.used; unmet : Unmet (filters l.self) l.from l.self.scratch.now l.self.words.now }

abbrev pub decreases-loop-next : goal.decreases-loop-next
decreases-loop-next l = l.used - l.from
