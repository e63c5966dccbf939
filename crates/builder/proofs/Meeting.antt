-- Meeting a state: the words it is made of, and what each answer of the search means.
-- Assumes nothing.
use Rattle.std.specs.Prelude.{ℕ, ◌≤◌, ◌<◌, ◌≡◌, Bool, false, cond, List, Some, None}
use Rattle.std.proofs.Common.{arith, sym, ap, ◌∙◌}
use Rattle.std.proofs.lemmas.Option.{cond_some}
use Rattle.residue.specs.declared.Outcome.{Outcome}
use Rattle.lists.specs.Filters.{item_of}
use Rattle.lists.specs.Words.{test_list}
use Rattle.lists.specs.declared.TestWords.{TestWords}
use Rattle.tables.specs.inner.Records.{fresh_by}
use Rattle.tables.specs.declared.Fresh.{Fresh}
use Rattle.slots.specs.inner.Slots.{step_question, step_words}
use Rattle.slots.specs.Asking.{question_in, filters_in}
use Rattle.automaton.specs.Machines.{meets, place_of}
use Rattle.automaton.specs.inner.Placing.{fresh_of}
use Rattle.automaton.proofs.laws.Places.{place_below}
use Rattle.builder.specs.inner.Memory.{slot_at, states_in, sought_in}
use Rattle.builder.specs.laws.Memory.{cond_none}
use Rattle.builder.specs.laws.WaysPlaced.{length_states}
use Rattle.builder.specs.inner.Promises.{Stepping}
use Rattle.builder.specs.inner.Builders.{filters, machine, Made, Search, state_at, ReadyIn, StoredIn, MeetingIn}
use Rattle.builder.specs.declared.rooms.Builder.{Builder}
use Rattle.builder.specs.declared.Met.TheVariants as M
use Rattle.builder.proofs.Finding.{part, slot_part, slot_filters, shown}
use Rattle.builder.proofs.Following.{same_filters, stored_on}

-- ---- a step by the state's own question

pub step_own : (n : ℕ) (ranks : List ℕ) (o : Outcome) (w question done : List ℕ)
    → question ≡ question_in n w → done ≡ step_question n ranks o (item_of question) w → done ≡ step_words n ranks o w
unfolding step_words
step_own n ranks o w question done q e = e ∙ ap (λ (x : List ℕ). step_question n ranks o (item_of x) w) q

-- The words stepped to are those of the state in slot `at`, stepped.
pub steps_is : (ranks : List ℕ) (o : Outcome) {at : ℕ} {s words : List ℕ} (q : TestWords) (done : List ℕ) → Stepping at s words
    → test_list q ≡ question_in (filters_in (part words s at)) (part words s at)
    → done ≡ step_question (filters_in (part words s at)) ranks o (item_of (test_list q)) (part words s at)
    → done ≡ step_words (filters_in words) ranks o (slot_at (filters_in words) s at)
steps_is ranks o {at} {s} {words} q done asked e is =
    step_own (filters_in (part words s at)) ranks o (part words s at) (test_list q) done e is
    ∙ ap (λ (w : List ℕ). step_words (filters_in w) ranks o w) (slot_part words s at asked.whole)
    ∙ ap (λ (k : ℕ). step_words k ranks o (slot_at (filters_in words) s at)) (slot_filters (filters_in words) s at asked.filters asked.slotted)

-- ---- the answers

-- The state was made after b, which left b₁: nothing else changed.
module _ (b b₁ : Builder) (o : Outcome) (at used : ℕ) (steps : Made b (step_words (filters b) b.ranks.now o (state_at b at)) b₁) (ready : ReadyIn b at used) where
  pub search_asks : (f : Fresh) → fresh_by f ≡ fresh_of (machine b₁) b₁.words.now → Search b₁ used f
  search_asks f is =
      record {
        within = rw steps.same.slots ready.within;
        shows = shown (filters b₁) used b₁.ranks.now b₁.table.now b₁.scratch.now b₁.words.now f (rw (same_filters steps.same, steps.same.ranks, steps.table, steps.scratch) ready.told) is;
      }

  abbrev met : Bool
  met = meets (machine b) (states_in (filters b) used b.scratch.now) (step_words (filters b) b.ranks.now o (state_at b at))

  abbrev place : ℕ
  place = place_of (machine b) (states_in (filters b) used b.scratch.now) (step_words (filters b) b.ranks.now o (state_at b at))

  sought : sought_in (filters b₁) b₁.ranks.now (states_in (filters b₁) used b₁.scratch.now) b₁.words.now ≡ cond met (Some place) None
  unfolding sought_in
  sought = rw (same_filters steps.same, steps.state, steps.same.ranks, steps.scratch)

  pub met_old : (i : ℕ) → Some i ≡ sought_in (filters b₁) b₁.ranks.now (states_in (filters b₁) used b₁.scratch.now) b₁.words.now → MeetingIn b o at used (Some (M.Old i)) b₁
  met_old i e =
      let old = cond_some met place i (sym (e ∙ sought)) in
      let below = place_below (machine b) (states_in (filters b) used b.scratch.now) (step_words (filters b) b.ranks.now o (state_at b at)) old.0 in
      let many = length_states (filters b) used b.scratch.now in
      let is = old.1 in
      (old.0, is, omega arith, steps.table, steps.scratch)

  module _ (nothing : None ≡ sought_in (filters b₁) b₁.ranks.now (states_in (filters b₁) used b₁.scratch.now) b₁.words.now) where
    unmet : met ≡ false
    unmet = cond_none met place (sym (nothing ∙ sought))

    pub met_slotless : b₁.slots ≤ used → MeetingIn b o at used None b₁
    met_slotless h = (unmet, omega (arith, steps.same.slots), steps.table, steps.scratch)

    pub met_new : (b₂ : Builder) → used < b₁.slots → StoredIn b₁ used b₂ → MeetingIn b o at used (Some M.New) b₂
    met_new b₂ h st =
        let kept = stored_on steps used b₂ st in
        (unmet, rw (← steps.same.slots) h, kept.memory, kept.after, kept.kept, kept.beyond)
