-- The measure of the state builder and the way builder: the number of tests that remain in the state of slot `at`, twice, and one more for the state builder.
use Rattle.std.proofs.Common.{◌*◌, ◌+◌}
use Rattle.machine.specs.inner.Remaining.{tests_left}
use Rattle.builder.specs.inner.Builders.{filters, state_at}
use Rattle.builder.proofs.rooms.Builder.+place_state_place_way.Given as goal

abbrev pub decreases-place_state : goal.decreases-place_state
decreases-place_state l = 2 * tests_left (filters l.self.now) (state_at l.self.now l.at) + 1

abbrev pub decreases-place_way : goal.decreases-place_way
decreases-place_way l = 2 * tests_left (filters l.self.now) (state_at l.self.now l.at)
