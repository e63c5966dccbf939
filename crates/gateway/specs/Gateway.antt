-- Change request P5: what the gateway answers for a frame, and every tally afterwards.
--   tally_count, full_tally   a tally for each filter and one for unmatched frames; the number at which a tally is full
--   allowance               the questions that a walk may ask: the most tests that a list can have
--   divert                  the last of the verdicts, 0 pass, 1 drop, 2 divert
--   lowest_of s              the number of the lowest-numbered filter in the set s; that of the last tally where the set is empty
--   Judged                  the verdict, or why the frame is refused
--   Judgement, judgement_of  this answer, and every tally afterwards
--   judged f p t m vs d ts  the frame f, which came in at box port p, judged by the table t of m states, the verdict table vs,
--                           the standing verdict d and the tallies ts
--   emptied ts              the tallies after a clearing
use Rattle.std.specs.Prelude.{ℕ, zero, suc, ◌+◌, ◌*◌, Bool, cond, not, ◌&&◌, List, leb, eqb, length, get_or, set, replicate, Result, Ok, Err}
use Rattle.std.specs.List.{list_all}
use Rattle.refusals.specs.declared.Refusal.{Refusal}
use Rattle.refusals.specs.declared.Refusal.TheVariants.{Table, FullTally, Verdicts, Tallies}
use Rattle.sets.specs.Sets.{member}
use Rattle.lists.specs.Filters.{max_filters, max_tests}
use Rattle.matcher.specs.declared.Walk.TheVariants.{Done, Stopped}
use Rattle.matcher.specs.Walk.{Answer, walk}

abbrev pub tally_count : ℕ
tally_count = max_filters + 1

abbrev pub full_tally : ℕ
full_tally = 4294967295

abbrev pub allowance : ℕ
allowance = max_filters * max_tests

abbrev pub divert : ℕ
divert = 2

-- The lowest number in the set s among the k from i on; i + k where there is none.
unfoldable pub lowest_from : ℕ → ℕ → ℕ → ℕ
lowest_from zero i s = i
lowest_from (suc k) i s = cond (member i s) i (lowest_from k (suc i) s)

unfoldable pub lowest_of : ℕ → ℕ
lowest_of s = lowest_from max_filters 0 s

unfoldable pub all_verdicts : List ℕ → Bool
all_verdicts vs = list_all (λ v. leb v divert) vs

-- A verdict table and a standing verdict that are not refused.
unfoldable pub verdicts_fit : List ℕ → ℕ → Bool
verdicts_fit vs d = eqb (length vs) max_filters && leb d divert && all_verdicts vs

abbrev pub Judged : Type 0
Judged = Result ℕ Refusal

pub record Judgement : Type 0 where
  pub answer : Judged
  pub tallies : List ℕ

abbrev pub judgement_of : Judged → List ℕ → Judgement
judgement_of a ts = record { answer = a; tallies = ts }

-- A refused frame counts nowhere.
abbrev pub refused : Refusal → List ℕ → Judgement
refused r ts = judgement_of (Err r) ts

-- The verdict stands at the filter's place in the table; behind its end it is the standing one. The tally at that place alone is one greater.
unfoldable pub counted_at : ℕ → List ℕ → ℕ → List ℕ → Judgement
counted_at i vs d ts =
    cond (eqb (get_or ts i 0) full_tally) (refused FullTally ts)
    (judgement_of (Ok (get_or vs i d)) (set ts i (get_or ts i 0 + 1)))

-- The sure set of a walk that is done is the match set; a walk that was stopped is refused.
unfoldable pub judged_by : Answer → List ℕ → ℕ → List ℕ → Judgement
judged_by (Ok (Done x)) vs d ts = counted_at (lowest_of x.sure) vs d ts
judged_by (Ok (Stopped x)) vs d ts = refused Table ts
judged_by (Err r) vs d ts = refused r ts

-- The tallies (24), the verdicts (16), then the walk's 12 and 13, then 15.
unfoldable pub judged : List ℕ → ℕ → List ℕ → ℕ → List ℕ → ℕ → List ℕ → Judgement
judged f p t m vs d ts =
    cond (not (eqb (length ts) tally_count)) (refused Tallies ts)
    (cond (not (verdicts_fit vs d)) (refused Verdicts ts)
    (judged_by (walk f p t m allowance) vs d ts))

abbrev pub emptied : List ℕ → List ℕ
emptied ts = replicate (length ts) 0
