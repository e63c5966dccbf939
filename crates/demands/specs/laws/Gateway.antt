-- The gateway over a built table: its allowance is enough for every list, so the walk is done and its sure set is the match set.
-- Assumes nothing.
use Rattle.std.specs.Prelude.{ℕ, ◌≤◌, ◌<◌, ◌≡◌, true, false, List, length}
use Rattle.std.proofs.Common.{arith, ap, ◌∙◌}
use Rattle.fields.specs.Fields.{field}
use Rattle.lists.specs.Filters.{max_filters, Filter, filters_of, tests_in}
use Rattle.lists.specs.Ranks.{matches}
use Rattle.lists.specs.laws.Accepted.{accepted_count}
use Rattle.lists.specs.laws.Topmost.{fires_below, matches_fires}
use Rattle.matcher.specs.Walk.{found}
use Rattle.gateway.specs.Gateway.{tally_count, allowance, lowest_of, verdicts_fit, Judgement, counted_at, judged}
use Rattle.gateway.proofs.laws.Judging.{judged_done}
use Rattle.gateway.proofs.laws.Lowest.{lowest_is, lowest_none}
use Rattle.builder.specs.Outcome.{refusal_of, number_of, outcome}
use Rattle.labels.specs.Labels.{Legal}
use Rattle.demands.specs.Settled.{walked}
use Rattle.demands.specs.laws.Builds.{Success, build_success}
use Rattle.demands.specs.laws.Settled.{all_done, all_matches}

module _ (l t s : List ℕ) (built : refusal_of (outcome l t s).answer ≡ 0) where
  abbrev fs : List Filter
  fs = filters_of l

  success : Success l t s
  success = build_success l t s built

  few_filters : length fs ≤ max_filters
  few_filters =
      let k = accepted_count l success.listing.0 success.listing.1 success.listing.2 in
      omega (arith, k.0, k.2)

  allowed : tests_in fs ≤ allowance
  allowed =
      let k = accepted_count l success.listing.0 success.listing.1 success.listing.2 in
      omega (arith, k.1, k.2, k.3)

  module _ (f : List ℕ) (p : ℕ) (legal : Legal f p) (vs : List ℕ) (d : ℕ) (ts : List ℕ) (room : length ts ≡ tally_count) (fit : verdicts_fit vs d ≡ true) where
    abbrev sures : ℕ
    sures = (found (walked l t s f p allowance)).sure

    abbrev judgement : Judgement
    judgement = judged f p (outcome l t s).table (number_of (outcome l t s).answer) vs d ts

    at_place : (i : ℕ) → lowest_of sures ≡ i → judgement ≡ counted_at i vs d ts
    at_place i e =
        judged_done f p (outcome l t s).table (number_of (outcome l t s).answer) vs d ts room fit (all_done l t s built f p legal allowance allowed) ∙
        ap (λ (k : ℕ). counted_at k vs d ts) e

    pub verdict_first : (i : ℕ) → matches fs (field f p) i ≡ true → ((j : ℕ) → j < i → matches fs (field f p) j ≡ false) → judgement ≡ counted_at i vs d ts
    verdict_first i e none =
        let same = all_matches l t s built f p legal allowance allowed in
        at_place i
        (lowest_is sures i (omega (arith, fires_below fs (field f p) i (matches_fires fs (field f p) i e), few_filters)) (same i ∙ e) (λ j h. same j ∙ none j h))

    pub verdict_standing : ((j : ℕ) → matches fs (field f p) j ≡ false) → judgement ≡ counted_at max_filters vs d ts
    verdict_standing none = at_place max_filters (lowest_none sures (λ j. all_matches l t s built f p legal allowance allowed j ∙ none j))
