-- What the promise says in each case.
--   judged_room       a tally room of another length is refused with 24
--   judged_verdicts   else verdicts that do not fit with 16
--   judged_walk       else the walk decides
--   judged_done       by the sure set, where it is done
use Rattle.std.specs.Prelude.{ℕ, ◌≡◌, refl, true, false, List, length, Ok, Err}
use Rattle.std.proofs.Common.{eq-eqb, ne_eqb}
use Rattle.std.proofs.lemmas.Bool.{false≢true}
use Rattle.refusals.specs.declared.Refusal.TheVariants.{Verdicts, Tallies}
use Rattle.matcher.specs.declared.Walk.TheVariants.{Done, Stopped}
use Rattle.matcher.specs.Walk.{Answer, found, is_done, walk}
use Rattle.gateway.specs.Gateway.{tally_count, allowance, lowest_of, verdicts_fit, refused, counted_at, judged_by, judged}

-- An answer that is done.
by_done : (a : Answer) (vs : List ℕ) (d : ℕ) (ts : List ℕ) → is_done a ≡ true → judged_by a vs d ts ≡ counted_at (lowest_of (found a).sure) vs d ts
unfolding judged_by
by_done (Ok (Done x)) vs d ts e = refl
by_done (Ok (Stopped x)) vs d ts e = absurd (false≢true e)
by_done (Err r) vs d ts e = absurd (false≢true e)

module _ (f : List ℕ) (p : ℕ) (t : List ℕ) (m : ℕ) (vs : List ℕ) (d : ℕ) (ts : List ℕ) where
  pub judged_room : (length ts ≡ tally_count → ⊥) → judged f p t m vs d ts ≡ refused Tallies ts
  unfolding judged
  judged_room odd = rw (ne_eqb (length ts) tally_count odd)

  module _ (room : length ts ≡ tally_count) where
    pub judged_verdicts : verdicts_fit vs d ≡ false → judged f p t m vs d ts ≡ refused Verdicts ts
    unfolding judged
    judged_verdicts e = rw (eq-eqb (length ts) tally_count room, e)

    pub judged_walk : verdicts_fit vs d ≡ true → (a : Answer) → a ≡ walk f p t m allowance → judged f p t m vs d ts ≡ judged_by a vs d ts
    unfolding judged
    judged_walk fit a e = rw (eq-eqb (length ts) tally_count room, fit, e)

pub judged_done :
    (f : List ℕ) (p : ℕ) (t : List ℕ) (m : ℕ) (vs : List ℕ) (d : ℕ) (ts : List ℕ) → length ts ≡ tally_count → verdicts_fit vs d ≡ true →
    is_done (walk f p t m allowance) ≡ true → judged f p t m vs d ts ≡ counted_at (lowest_of (found (walk f p t m allowance)).sure) vs d ts
unfolding judged
judged_done f p t m vs d ts room fit e = rw (eq-eqb (length ts) tally_count room, fit) (by_done (walk f p t m allowance) vs d ts e)
