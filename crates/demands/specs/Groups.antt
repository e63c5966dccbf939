-- Change request P6: group 0 means on its own, and lists that kept all their filters in group 0 move to group 1 and get what they had.
-- The old ranking, and what is worked out under any ranking, stand in specs/inner/OldRanks.antt.
--   l fs     a list's words and its filters
--   l' fs'   the words with group 1 for each filter, and their filters
use Rattle.std.specs.Prelude.{ℕ, ◌<◌, ◌≡◌, refl, true, false, List, length, Option, Ok}
use Rattle.std.proofs.Common.{arith, sym, ap, ◌∙◌, subst}
use Rattle.lists.specs.Filters.{Filter, filters_of}
use Rattle.lists.specs.Refusals.{counts, listed}
use Rattle.lists.specs.Ranks.{group_of, above, fires, matches, match_set}
use Rattle.lists.specs.inner.Moved.{all_in, moved, moved_words}
use Rattle.lists.specs.laws.Accepted.{accepted_well}
use Rattle.lists.specs.laws.Moved as M
use Rattle.lists.specs.laws.Ranking as R
use Rattle.lists.specs.laws.Topmost as T
use Rattle.machine.specs.Box.{states_of, records_in}
use Rattle.matcher.specs.Walk.{walk}
use Rattle.builder.specs.Outcome.{number_of, Left, outcome}
use Rattle.gateway.specs.Gateway.{judged}
use Rattle.demands.specs.inner.OldRanks.{old_above, match_set_under, states_under, records_under, outcome_under}
use Rattle.demands.specs.laws.OldRanks.{RanksAlike, match_set_alike, states_alike, records_alike, outcome_alike, moved_alike, present_alike}

-- ---- on its own

module _ (fs : List Filter) (i : ℕ) (alone : group_of fs i ≡ 0) where
  -- A filter of group 0 ranks above no filter and below none, so it matches wherever its tests hold.
  pub alone_above : (j : ℕ) → above fs i j ≡ false
  alone_above j = R.alone_above fs i j alone

  pub alone_below : (j : ℕ) → above fs j i ≡ false
  alone_below j = R.alone_below fs j i alone

  pub alone_matches : (r : ℕ → Option ℕ) → matches fs r i ≡ fires fs r i
  alone_matches r = T.alone_matches fs r i alone

-- ---- lists that move

-- Under the present ranking what is worked out under a ranking is the present definition.
pub present_matches : (fs : List Filter) (r : ℕ → Option ℕ) → match_set_under above fs r ≡ match_set fs r
present_matches fs = match_set_alike above fs fs (present_alike fs)

pub present_outcome : (l t s : List ℕ) → outcome_under above l t s ≡ outcome l t s
present_outcome l = outcome_alike above l l (present_alike (filters_of l)) refl

-- A list whose filters are all in group 0.
module _ (l : List ℕ) (alone : all_in 0 (filters_of l) ≡ true) where
  abbrev l' : List ℕ
  l' = moved_words 1 l

  abbrev fs : List Filter
  fs = filters_of l

  abbrev fs' : List Filter
  fs' = filters_of l'

  -- The words with group 1 mean the filters with group 1, and are accepted or refused as before.
  pub moved_filters : fs' ≡ moved 1 fs
  moved_filters = M.moved_filters 1 l

  pub moved_listed : listed l' ≡ listed l
  moved_listed = M.moved_listed 0 1 (omega arith) (omega arith) l alone

  alike : RanksAlike old_above fs fs'
  alike = subst (RanksAlike old_above fs) (sym moved_filters) (moved_alike 1 refl fs alone)

  -- The same ranks.
  pub moved_ranks : (j i : ℕ) → j < length fs → i < length fs → old_above fs j i ≡ above fs' j i
  moved_ranks = alike.ranked

  -- The same match set, whatever the fields read.
  pub moved_matches : (r : ℕ → Option ℕ) → match_set_under old_above fs r ≡ match_set fs' r
  moved_matches = match_set_alike old_above fs fs' alike

  -- The same states and the same records.
  module _ (n k : ℕ) (accepted : listed l ≡ Ok (counts n k)) where
    pub moved_states : states_under old_above fs ≡ states_of fs'
    moved_states = states_alike old_above fs fs' alike (accepted_well l' n k (moved_listed ∙ accepted))

    pub moved_records : records_under old_above fs ≡ records_in fs'
    moved_records = records_alike old_above fs fs' alike (accepted_well l' n k (moved_listed ∙ accepted))

  -- So building answers the same and leaves the same words, refusals too.
  pub moved_outcome : (t s : List ℕ) → outcome_under old_above l t s ≡ outcome l' t s
  moved_outcome = outcome_alike old_above l l' alike (sym moved_listed)

  -- So every frame walks through the table as before.
  pub moved_walks :
      (t s f : List ℕ) (p a : ℕ) →
      walk f p (outcome_under old_above l t s).table (number_of (outcome_under old_above l t s).answer) a ≡ walk f p (outcome l' t s).table (number_of (outcome l' t s).answer) a
  moved_walks t s f p a = ap (λ (b : Left). walk f p b.table (number_of b.answer) a) (moved_outcome t s)

  -- And it gets the verdict that it had, with the same tallies afterwards.
  pub moved_verdicts :
      (t s f : List ℕ) (p : ℕ) (vs : List ℕ) (d : ℕ) (ts : List ℕ) →
      judged f p (outcome_under old_above l t s).table (number_of (outcome_under old_above l t s).answer) vs d ts ≡ judged f p (outcome l' t s).table (number_of (outcome l' t s).answer) vs d ts
  moved_verdicts t s f p vs d ts = ap (λ (b : Left). judged f p b.table (number_of b.answer) vs d ts) (moved_outcome t s)
