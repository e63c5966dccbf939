-- What the builder's proofs ask of a machine.
--   Lawful M Good left  on good states: same is equality, a step from an asking state is good and has less left, a question has the words of one
use Rattle.std.specs.Prelude.{ℕ, ◌<◌, ◌≡◌, true, length}
use Rattle.residue.specs.declared.Outcome.{Outcome}
use Rattle.tables.specs.inner.Records.{ask_words}
use Rattle.automaton.specs.Machines.{Machine}

pub record Lawful (M : Machine) (Good : M.State → Type 0) (left : M.State → ℕ) : Type 0 where
  pub same_eq : (a b : M.State) → Good a → M.same a b ≡ true → a ≡ b
  pub same_refl : (a : M.State) → Good a → M.same a a ≡ true
  pub good_step : (o : Outcome) (s : M.State) → Good s → M.asks s ≡ true → Good (M.step o s)
  pub falls : (o : Outcome) (s : M.State) → Good s → M.asks s ≡ true → left (M.step o s) < left s
  pub question_long : (s : M.State) → Good s → length (M.question s) ≡ ask_words
