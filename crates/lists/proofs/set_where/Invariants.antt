-- The set is the tally of the filters passed, for each test that says what the function's test says.
use Rattle.std.proofs.Common.{ℕ, Bool, ◌^◌, ◌<◌, ◌≡◌}
use Rattle.sets.specs.Sets.{set_of, tally}
use Rattle.lists.proofs.set_where.Given as goal

abbrev pub invariant-loop-i : goal.invariant-loop-i
invariant-loop-i g l = record {
  small : l.set < 2 ^ l.i;
  those : (p : ℕ → Bool) → ((i : ℕ) (b : Bool) → i < l.n → goal.F-post g l.test i b → b ≡ p i) → l.set ≡ set_of (tally l.i p);
}
