-- Fewer tests remain on the words of a slot at each question, so the recursion that places states ends.
use Rattle.std.specs.Prelude.{ℕ, ◌≤◌, ◌<◌, ◌≡◌, true, List, length, Ok}
use Rattle.std.proofs.Common.{arith, sym, ap, ◌∙◌}
use Rattle.residue.specs.declared.Outcome.{Outcome}
use Rattle.lists.specs.Filters.{Filter, filters_of}
use Rattle.lists.specs.Refusals.{listed, counts}
use Rattle.lists.specs.laws.Accepted.{accepted_count, accepted_well}
use Rattle.lists.specs.Ranks.{rank_sets}
use Rattle.states.specs.States.{State, start}
use Rattle.states.specs.inner.Remaining.{remaining}
use Rattle.states.proofs.laws.Measure.{start_remaining}
use Rattle.slots.specs.inner.Words.{written, read_state}
use Rattle.slots.specs.inner.Slots.{asks_in, step_words, start_words}
use Rattle.slots.specs.laws.Written.{start_accepted}
use Rattle.slots.specs.laws.Reading.{read_written}
use Rattle.machine.proofs.laws.Lawful.{good_start, box_lawful}
use Rattle.machine.proofs.laws.Carried.{slots_carried}
use Rattle.machine.specs.inner.Good.{Good}
use Rattle.machine.specs.inner.Remaining.{tests_left, GoodWords, good_words}

left_written : (fs : List Filter) (s : State) → Good fs s → tests_left (length fs) (written s) ≡ remaining s
unfolding tests_left
left_written fs s g = ap (λ (m : ℕ). remaining (read_state m (written s))) (sym g.each) ∙ ap remaining (read_written s g.fits)

-- A question that came to an outcome leaves a good state with fewer tests.
pub words_step : {n : ℕ} {ranks w : List ℕ} (o : Outcome) → GoodWords n ranks w → asks_in n w ≡ true → GoodWords n ranks (step_words n ranks o w)
words_step o (good_words {fs} {s} few g) q =
    let carried = slots_carried fs few in
    let asked = sym (carried.asks_carried s g) ∙ q in
    rw (carried.step_carried o s g asked) (good_words few ((box_lawful fs).good_step o s g asked))

pub words_fall : {n : ℕ} {ranks w : List ℕ} (o : Outcome) → GoodWords n ranks w → asks_in n w ≡ true → tests_left n (step_words n ranks o w) < tests_left n w
words_fall o (good_words {fs} {s} few g) q =
    let carried = slots_carried fs few in
    let asked = sym (carried.asks_carried s g) ∙ q in
    let good = (box_lawful fs).good_step o s g asked in
    rw (carried.step_carried o s g asked, left_written fs _ good, left_written fs s g) ((box_lawful fs).falls o s g asked)

-- The start of an accepted list is good, and has no more tests than the list.
module _ (l : List ℕ) (n k : ℕ) (accepts : listed l ≡ Ok (counts n k)) where
  begins : Good (filters_of l) (start (filters_of l))
  begins = good_start (filters_of l) (accepted_well l n k accepts)

  pub words_start : GoodWords n (rank_sets (filters_of l)) (start_words n (rank_sets (filters_of l)) l)
  words_start =
      let c = accepted_count l n k accepts in
      rw (start_accepted l n k accepts, ← c.0) (good_words {fs = filters_of l} (omega (arith, c.0, c.2)) begins)

  pub left_start : tests_left n (start_words n (rank_sets (filters_of l)) l) ≤ k
  left_start =
      let c = accepted_count l n k accepts in
      rw (start_accepted l n k accepts, ← c.0, left_written (filters_of l) (start (filters_of l)) begins, ← c.1) (start_remaining (filters_of l))
