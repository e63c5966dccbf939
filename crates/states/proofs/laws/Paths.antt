-- Demands 2 and 3 about one path of the frame whose field k reads r k, in one place, whichever remaining tests it asks.
--   after fs r n        the state after n of document 01's questions
--   PathTruth fs r n s  what the state s promises that n questions have led to
use Rattle.std.specs.Prelude.{ℕ, ◌+◌, ◌≤◌, ◌≡◌, true, false, ◌&&◌, List, ltb, length, Option}
use Rattle.std.proofs.Common.{arith}
use Rattle.std.proofs.Math.Path.{ap}
use Rattle.sets.specs.Sets.{set_of, member}
use Rattle.sets.specs.laws.Members.{tally_ext, member_tally}
use Rattle.lists.specs.inner.Well.{well_filters}
use Rattle.lists.specs.Filters.{Filter, tests_in}
use Rattle.lists.specs.Ranks.{matches, match_set}
use Rattle.states.specs.States.{State, standing, is_out, start, nothing, question_of, sure, is_open, sure_set, out_set}
use Rattle.states.specs.inner.Remaining.{remaining}
use Rattle.states.specs.Runs.{run}
use Rattle.states.proofs.laws.Choices.{path_free}
use Rattle.states.specs.inner.Choices.{Path}
use Rattle.states.proofs.laws.Well.{well_start}
use Rattle.states.proofs.laws.Measure.{none_remaining, leads_tests}
use Rattle.states.proofs.laws.Truth.{Tells, InWidths, tells_start, path_tells}
use Rattle.states.proofs.laws.Sure.{Shut, sure_matches, out_not_matches, final_sure, final_none_open}
use Rattle.states.proofs.laws.Stays.{shut_start, leads_shut, leads_sure, leads_out}

abbrev pub after : List Filter → (ℕ → Option ℕ) → ℕ → State
after fs r n = run fs r n (start fs)

-- The sets by their members.
pub member_sure : (fs : List Filter) (s : State) (i : ℕ) → member i (sure_set fs s) ≡ (ltb i (length fs) && sure fs s i)
unfolding sure_set
member_sure fs s i = member_tally (length fs) (λ j. sure fs s j) i

pub member_out : (fs : List Filter) (s : State) (i : ℕ) → member i (out_set fs s) ≡ (ltb i (length fs) && is_out (standing s i))
unfolding out_set
member_out fs s i = member_tally (length fs) (λ j. is_out (standing s j)) i

-- The state s that n questions of the frame have led to from the start, each any of the remaining tests that it met.
pub record PathTruth (fs : List Filter) (r : ℕ → Option ℕ) (n : ℕ) (s : State) : Type 0 where
  -- What it says is true of the frame: a sure filter is in the match set, an out one is not.
  pub tells : Tells fs r s
  pub sure_true : (i : ℕ) → sure fs s i ≡ true → matches fs r i ≡ true
  pub out_true : (i : ℕ) → is_out (standing s i) ≡ true → matches fs r i ≡ false
  -- Where nothing is left to ask, the sure filters are the match set, and none is open.
  pub settled : question_of s ≡ nothing → (i : ℕ) → sure fs s i ≡ matches fs r i
  pub settled_set : question_of s ≡ nothing → sure_set fs s ≡ match_set fs r
  pub none_open : question_of s ≡ nothing → (i : ℕ) → is_open fs s i ≡ false
  -- Further questions take nothing back.
  pub sure_kept : {k : ℕ} {t : State} → Path fs r k s t → (i : ℕ) → sure fs s i ≡ true → sure fs t i ≡ true
  pub out_kept : {k : ℕ} {t : State} → Path fs r k s t → (i : ℕ) → is_out (standing s i) ≡ true → is_out (standing t i) ≡ true
  -- There are no more questions than the list has tests, and after as many nothing is left to ask.
  pub few : n ≤ tests_in fs
  pub ended : tests_in fs ≤ n → question_of s ≡ nothing

module _ (fs : List Filter) (r : ℕ → Option ℕ) (h : well_filters fs ≡ true) (w : InWidths r) where
  pub path_truth : {n : ℕ} {s : State} → Path fs r n (start fs) s → PathTruth fs r n s
  unfolding sure_set match_set
  path_truth {n} {s} p =
      let t : Tells fs r s = path_tells fs r w p (well_start fs h) (tells_start fs r) in
      let shut : Shut fs s = leads_shut fs (path_free fs r p) (shut_start fs) in
      let many : n + remaining s ≤ tests_in fs = leads_tests fs h (path_free fs r p) in
      record {
        tells = t;
        sure_true = λ i e. sure_matches fs r s t i e;
        out_true = λ i e. out_not_matches fs r s t i e;
        settled = λ e i. final_sure fs r s t e i;
        settled_set = λ e. ap set_of (tally_ext (length fs) (λ i. sure fs s i) (λ i. matches fs r i) (λ i _. final_sure fs r s t e i));
        none_open = λ e i. final_none_open fs s shut e i;
        sure_kept = λ q i e. leads_sure fs (path_free fs r q) i e;
        out_kept = λ q i e. leads_out fs (path_free fs r q) i e;
        few = omega arith;
        ended = λ l. none_remaining s (omega arith);
      }
