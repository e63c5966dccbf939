-- Building a list and classifying a frame over what was built, as one: what the answer of both calls together says.
--   Told l t s f p a x    demands 2 and 3 of the answer x of a walk
--   Whole l t s f p a x   the answer x is a build's refusal, or a walk of which demands 2 and 3 hold; a frame that is too long is refused by the walk
--   Rooms b t' s'         the table and the scratch afterwards
use Rattle.std.specs.Prelude.{ℕ, ◌≤◌, ◌<◌, ◌≡◌, true, false, not, ◌&&◌, ◌⊎◌, List, length, Result, Err}
use Rattle.refusals.specs.declared.Refusal.{Refusal}
use Rattle.refusals.specs.declared.Refused.{Refused}
use Rattle.fields.specs.Ethernet.{max_frame}
use Rattle.fields.specs.Fields.{field}
use Rattle.fields.specs.Seen.{seen}
use Rattle.sets.specs.Sets.{member}
use Rattle.lists.specs.Filters.{Filter, filters_of, tests_in}
use Rattle.lists.specs.Ranks.{matches}
use Rattle.states.specs.States.{State, start, is_open}
use Rattle.states.specs.Runs.{run, asked_in}
use Rattle.builder.specs.Outcome as O
use Rattle.matcher.specs.declared.Walk.{Walk}
use Rattle.matcher.specs.Walk as W
use Rattle.labels.specs.Labels.{shown_at, met_in}
use Rattle.demands.specs.Settled.{walked}

-- The words that building leaves: classifying changes none.
pub record Rooms (b : O.Left) (t s : List ℕ) : Type 0 where
  pub table : t ≡ b.table
  pub scratch : s ≡ b.scratch

module _ (l t s f : List ℕ) (p a : ℕ) where
  abbrev fs : List Filter
  fs = filters_of l

  abbrev reached : State
  reached = run fs (field f p) a (start fs)

  -- Of a list that was built and a frame that is not refused.
  pub record Told (x : Result Walk Refusal) : Type 0 where
    -- Demand 2.
    pub settled : tests_in fs ≤ a → (W.is_done x ≡ true) × ((i : ℕ) → member i (W.found x).sure ≡ matches fs (field f p) i)
    -- Demand 3, in the order of specs/Demands.antt.
    pub exact : x ≡ shown_at fs reached (asked_in fs (field f p) a (start fs)) (met_in fs (seen f p) a (start fs))
    pub neither : (i : ℕ) → i < length fs → (not (member i (W.found x).sure) && not (member i (W.found x).out)) ≡ is_open fs reached i
    pub sound_sure : (i : ℕ) → member i (W.found x).sure ≡ true → matches fs (field f p) i ≡ true
    pub sound_out : (i : ℕ) → member i (W.found x).out ≡ true → matches fs (field f p) i ≡ false
    pub stays :
        (less i : ℕ) → less ≤ a →
        (member i (W.found (walked l t s f p less)).sure ≡ true → member i (W.found x).sure ≡ true) × (member i (W.found (walked l t s f p less)).out ≡ true → member i (W.found x).out ≡ true)
    pub none_open : tests_in fs ≤ a → (i : ℕ) → i < length fs → (member i (W.found x).sure ≡ true) ⊎ (member i (W.found x).out ≡ true)
    pub few : ((W.found x).asked ≤ a) × ((W.found x).asked ≤ tests_in fs)

  pub record Whole (x : Result Walk Refusal) : Type 0 where
    pub unbuilt : (r : Refused ℕ) → (O.outcome l t s).answer ≡ Err r → x ≡ Err r.refusal
    pub walks : O.refusal_of (O.outcome l t s).answer ≡ 0 → x ≡ walked l t s f p a
    pub demands : O.refusal_of (O.outcome l t s).answer ≡ 0 → length f ≤ max_frame → Told x
