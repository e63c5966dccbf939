-- The start is stored as state 0, and the rest follows from it.
-- Assumes nothing.
use Rattle.std.specs.Prelude.{ℕ, ◌*◌, ◌≤◌, ◌<◌, ◌≡◌, List, [], Option, Some, None}
use Rattle.std.proofs.Math.Path.{refl, ap, sym}
use Rattle.std.proofs.Common.{◌∙◌, subst, arith}
use Rattle.std.proofs.Math.ListN.{get_or}
use Rattle.std.proofs.lemmas.Bool.{lt-leb}
use Rattle.lists.specs.Filters.{filters_of}
use Rattle.sets.specs.Sets.{tally}
use Rattle.words.specs.laws.Lending.{later}
use Rattle.tables.specs.Tables.{record_words}
use Rattle.slots.specs.inner.Slots.{start_words}
use Rattle.machine.specs.inner.Slots.{slots_in}
use Rattle.machine.specs.inner.Placed.{whole}
use Rattle.machine.proofs.laws.Carried.{list_placed}
use Rattle.machine.specs.inner.Remaining.{GoodWords, tests_left}
use Rattle.machine.proofs.laws.Remaining.{words_start, left_start}
use Rattle.automaton.specs.Machines.{Machine}
use Rattle.automaton.specs.inner.Placing.{Memory, Placement, Told, stored, place_state, place_all}
use Rattle.automaton.proofs.laws.Telling.{told_none, told_stored}
use Rattle.builder.specs.inner.Memory.{slot_at, states_in, records_at, memory_of, out_of}
use Rattle.builder.specs.inner.Promises.{Stored, StatePlaced, Grown, AfterKept}
use Rattle.builder.specs.inner.Started.{Startable, Started}

all_slotless : (M : Machine) (slots f : ℕ) (s : M.State) → slots ≡ 0 → place_all M slots f s ≡ None
unfolding place_all
all_slotless M slots f s e = rw (e, place_all)

all_started : (M : Machine) (slots f : ℕ) (s : M.State) → 0 < slots → place_all M slots f s ≡ place_state M slots f 0 s (stored M s (record { met = []; records = [] }))
unfolding place_all
all_started M slots f s h = rw (lt-leb slots 0 h, place_all)

module _ {n slots : ℕ} {ranks l t s : List ℕ} (able : Startable n slots ranks l t s) where
  abbrev begin : List ℕ
  begin = start_words n ranks l

  -- As many questions as the list has tests are enough.
  abbrev tests : ℕ
  tests = able.listing.0

  abbrev the_all : Placement (slots_in n ranks)
  the_all = place_all (slots_in n ranks) slots tests begin

  all_is : the_all ≡ whole n ranks (filters_of l) slots
  all_is =
      subst (λ (x : List ℕ). place_all (slots_in n x) slots tests (start_words n x l) ≡ whole n x (filters_of l) slots) (sym able.ranked)
      (list_placed l n tests slots able.listing.1)

  pub started_none : slots ≡ 0 → Started n slots ranks (filters_of l) t s None t s
  unfolding out_of
  started_none e = record { comes = sym (all_slotless (slots_in n ranks) slots tests begin e) ∙ all_is; grows = tt; after = tt; behind = refl; beyond = refl }

  module _ (some-slot : 0 < slots) {t₁ s₁ : List ℕ} (kept : Stored n slots ranks 0 t s begin t₁ s₁) where
    slot_is : slot_at n s₁ 0 ≡ begin
    unfolding memory_of states_in stored tally
    slot_is = ap (λ (m : Memory (slots_in n ranks)). get_or m.met 0 []) kept.memory

    memory_is : memory_of n ranks 1 t₁ s₁ ≡ stored (slots_in n ranks) begin (record { met = []; records = [] })
    unfolding memory_of states_in records_at tally
    memory_is = kept.memory

    pub told_begin : Told (slots_in n ranks) (memory_of n ranks 1 t₁ s₁)
    told_begin =
        subst (λ (m : Memory (slots_in n ranks)). Told (slots_in n ranks) m) (sym memory_is)
        (told_stored (slots_in n ranks) begin (record { met = []; records = [] }) (told_none (slots_in n ranks)))

    -- The start's ways may be built.
    pub good_begin : GoodWords n ranks (slot_at n s₁ 0)
    good_begin = rw (slot_is, able.ranked) (words_start l n tests able.listing.1)

    enough : tests_left n (slot_at n s₁ 0) ≤ tests
    enough = rw slot_is (subst (λ (x : List ℕ). tests_left n (start_words n x l) ≤ tests) (sym able.ranked) (left_start l n tests able.listing.1))

    state_is : place_state (slots_in n ranks) slots tests 0 (slot_at n s₁ 0) (memory_of n ranks 1 t₁ s₁) ≡ the_all
    state_is =
        ap (λ (w : List ℕ). place_state (slots_in n ranks) slots tests 0 w (memory_of n ranks 1 t₁ s₁)) slot_is
        ∙ ap (λ (m : Memory (slots_in n ranks)). place_state (slots_in n ranks) slots tests 0 begin m) memory_is
        ∙ sym (all_started (slots_in n ranks) slots tests begin some-slot)

    grown : (r : Option ℕ) → Grown 1 slots r → Grown 0 slots r
    grown None g = tt
    grown (Some u) g = (omega arith, g.1)

    after_all : (r : Option ℕ) (t' : List ℕ) → Grown 1 slots r → AfterKept r t₁ t' → AfterKept r t t'
    after_all None t' g e = tt
    after_all (Some u) t' g e =
        let more = g.0 in
        e ∙ later (record_words * 1) (record_words * u) t₁ t (omega arith) kept.after

    pub started : {r : Option ℕ} {t' s' : List ℕ} → StatePlaced n slots ranks 0 1 t₁ s₁ r t' s' → Started n slots ranks (filters_of l) t s r t' s'
    started {r} {t'} p =
        record {
          comes = p.comes tests enough ∙ state_is ∙ all_is;
          grows = grown r p.grows;
          after = after_all r t' p.grows p.after;
          behind = p.behind ∙ later (record_words * 1) (record_words * slots) t₁ t (omega arith) kept.after;
          beyond = p.beyond ∙ kept.beyond;
        }
