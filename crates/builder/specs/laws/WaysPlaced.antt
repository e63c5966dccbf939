-- Why the builder's functions place what the theory places: a law for each way out of the way builder and of the state builder.
-- Assumes nothing.
use Prim.Native.Nat.{ℕ, zero, suc, ◌+◌, ◌*◌, ◌≤◌, ◌<◌}
use Rattle.std.specs.Prelude.{◌≡◌, true, false, length, take, drop, Option, Some, None}
use Rattle.std.proofs.Math.Path.{refl, ap, sym, subst}
use Rattle.std.proofs.Common.{◌∙◌}
use mathlib.Core.List.{List, []}
use native.Mathlib.Omega.{arith}
use Rattle.std.proofs.Math.ListN.{get_or}
use Rattle.std.proofs.Math.Seq.{get_or_at}
use Rattle.lists.specs.Filters.{max_filters}
use Rattle.residue.specs.declared.Outcome.{Outcome}
use Rattle.residue.specs.declared.Outcome.TheVariants as O
use Rattle.sets.specs.laws.Members.{length_tally, get_or_tally}
use Rattle.words.specs.laws.Lending.{later, earlier}
use Rattle.tables.specs.Tables.{record_words, max_slots}
use Rattle.tables.specs.inner.Records.{with_next}
use Rattle.tables.proofs.laws.Changes.{next_behind}
use Rattle.slots.specs.Words.{slot_words}
use Rattle.slots.specs.inner.Slots.{step_words, asks_in}
use Rattle.machine.specs.inner.Slots.{slots_in}
use Rattle.machine.specs.inner.Remaining.{GoodWords, tests_left}
use Rattle.machine.proofs.laws.Remaining.{words_step, words_fall}
use Rattle.automaton.specs.Machines.{meets, place_of}
use Rattle.automaton.specs.inner.Placing.{Memory, Placement, Told, stored, linked, and_then, place_way, place_state}
use Rattle.automaton.proofs.laws.Telling.{ToldBy, told_stored, told_way, told_state}
use Rattle.automaton.proofs.laws.MetPlaced.{way_old, way_unslotted, way_new, state_final, state_slotless, state_slotted_slotless, state_slotted}
use Rattle.builder.specs.inner.Memory.{slot_at, states_in, memory_of, out_of}
use Rattle.builder.specs.laws.Memory.{slot_kept, records_linked}
use Rattle.builder.specs.inner.Promises.{Ready, Asking, StatePlaced, WayPlaced, Meeting, Grown, AfterKept}
use Rattle.builder.specs.declared.Met.TheVariants as M

-- A next number that is put into a record of the table is put into that record of the memory.
memory_linked : (n : ℕ) (ranks : List ℕ) (used at v : ℕ) (o : Outcome) (t s : List ℕ) → at < used
    → linked (slots_in n ranks) o at v (memory_of n ranks used t s) ≡ memory_of n ranks used (with_next at o v t) s
unfolding memory_of linked
memory_linked n ranks used at v o t s h =
    sym (ap (λ (rs : List (List ℕ)). record { met = states_in n used s; records = rs }) (records_linked used at v o t h))

pub length_states : (n used : ℕ) (s : List ℕ) → length (states_in n used s) ≡ used
unfolding states_in
length_states n used s = length_tally used (λ i. slot_at n s i)

-- The sizes that placing asks of the list, its ranks and the rooms, beside what is ready.
pub record Sized (n slots : ℕ) (ranks t s : List ℕ) : Type 0 where
  pub filters : n ≤ max_filters
  pub ranked : length ranks ≡ max_filters
  pub few : slots ≤ max_slots
  pub tabled : record_words * slots ≤ length t
  pub scratched : slot_words * slots ≤ length s

sized_on : {n slots : ℕ} {ranks t s t' s' : List ℕ} → length t' ≡ length t → length s' ≡ length s → Sized n slots ranks t s → Sized n slots ranks t' s'
sized_on lt ls z =
    record {
      filters = z.filters;
      ranked = z.ranked;
      few = z.few;
      tabled = rw lt z.tabled;
      scratched = rw ls z.scratched;
    }

module _ {n slots : ℕ} {ranks : List ℕ} {at used : ℕ} (o : Outcome) {t s : List ℕ} (ready : Ready n slots ranks at used t s) where
  abbrev pub stepped : List ℕ
  stepped = step_words n ranks o (slot_at n s at)

  abbrev WayLeaves : Option ℕ → List ℕ → List ℕ → Type 0
  WayLeaves r t' s' = WayPlaced n slots ranks o at used t s r t' s'

  abbrev the_way : ℕ → Placement (slots_in n ranks)
  the_way left = place_way (slots_in n ranks) slots (place_state (slots_in n ranks) slots left) o at (slot_at n s at) (memory_of n ranks used t s)

  -- An old state: its number is put in.
  linked_old : (i : ℕ) → meets (slots_in n ranks) (states_in n used s) stepped ≡ true → place_of (slots_in n ranks) (states_in n used s) stepped ≡ i
      → WayLeaves (Some used) (with_next at o i t) s
  unfolding memory_of out_of
  linked_old i e p =
      let at-used = ready.inside in
      let fits = ready.within in
      record {
        comes = λ left h.
            sym (way_old (slots_in n ranks) slots (place_state (slots_in n ranks) slots left) o at (slot_at n s at) stepped (memory_of n ranks used t s) refl e
            ∙ ap (λ (k : ℕ). Some (linked (slots_in n ranks) o at k (memory_of n ranks used t s))) p
            ∙ ap (λ (m : Memory (slots_in n ranks)). Some m) (memory_linked n ranks used at i o t s at-used));
        grows = (omega arith, fits);
        after = next_behind at o i t used at-used;
        behind = next_behind at o i t slots (omega arith);
        kept = refl;
        beyond = refl;
      }

  pub old_below : {i : ℕ} {t' s' : List ℕ} → Meeting n slots ranks used t s stepped (Some (M.Old i)) t' s' → i < used
  old_below met = met.2

  pub placed_old : {i : ℕ} {t' s' t'' : List ℕ} → Meeting n slots ranks used t s stepped (Some (M.Old i)) t' s' → t'' ≡ with_next at o i t' → WayLeaves (Some used) t'' s'
  placed_old {i} met e = rw (e, met.3, met.4) (linked_old i met.0 met.1)

  no_slot : meets (slots_in n ranks) (states_in n used s) stepped ≡ false → slots ≤ used → WayLeaves None t s
  unfolding memory_of out_of
  no_slot e h =
      let long = length_states n used s in
      record {
        comes = λ left _. sym (way_unslotted (slots_in n ranks) slots (place_state (slots_in n ranks) slots left) o at (slot_at n s at) stepped (memory_of n ranks used t s) refl e (omega arith));
        grows = tt;
        after = tt;
        behind = refl;
        kept = refl;
        beyond = refl;
      }

  pub placed_slotless : {t' s' : List ℕ} → Meeting n slots ranks used t s stepped None t' s' → WayLeaves None t' s'
  placed_slotless met = rw (met.2, met.3) (no_slot met.0 met.1)

  -- The way to a new state: t₁, s₁ with the state stored, t₂, s₂ with its ways built.
  module _ (asking : Asking n ranks (slot_at n s at)) (t₁ s₁ : List ℕ) (meeting : Meeting n slots ranks used t s stepped (Some M.New) t₁ s₁) where
    slot_new : slot_at n s₁ used ≡ stepped
    unfolding memory_of states_in stored
    slot_new =
        let met = ap (λ (m : Memory (slots_in n ranks)). m.met) meeting.2 in
        sym (get_or_tally (used + 1) (λ i. slot_at n s₁ i) [] used (omega arith))
        ∙ ap (λ (l : List (List ℕ)). get_or l used []) met
        ∙ get_or_at (states_in n used s) stepped [] [] used (length_states n used s)

    -- The new state's record tells of it, its ways may be built, and fewer tests remain in it.
    pub told_new : Told (slots_in n ranks) (memory_of n ranks (used + 1) t₁ s₁)
    told_new = rw meeting.2 (told_stored (slots_in n ranks) stepped (memory_of n ranks used t s) ready.told)

    pub ready_new : Sized n slots ranks t s → length t₁ ≡ length t → length s₁ ≡ length s → Sized n slots ranks t₁ s₁ × Ready n slots ranks used (used + 1) t₁ s₁
    ready_new sizes lt ls = (sized_on lt ls sizes, record { inside = omega arith; within = omega (arith, meeting.1); told = told_new })

    pub good_new : GoodWords n ranks (slot_at n s₁ used)
    good_new = rw slot_new (words_step o asking.good asking.asks)

    fewer_left : tests_left n (slot_at n s₁ used) < tests_left n (slot_at n s at)
    fewer_left = rw slot_new (words_fall o asking.good asking.asks)

    pub state_less : 2 * tests_left n (slot_at n s₁ used) + 1 < 2 * tests_left n (slot_at n s at)
    state_less = omega (arith, fewer_left)

    abbrev the_state : ℕ → Placement (slots_in n ranks)
    the_state left = place_state (slots_in n ranks) slots left used stepped (stored (slots_in n ranks) stepped (memory_of n ranks used t s))

    way_is : (left : ℕ) → the_way left ≡ and_then (slots_in n ranks) (the_state left) (λ m'. Some (linked (slots_in n ranks) o at used m'))
    unfolding memory_of
    way_is left =
        let long = length_states n used s in
        way_new (slots_in n ranks) slots (place_state (slots_in n ranks) slots left) o at (slot_at n s at) stepped (memory_of n ranks used t s) refl meeting.0
        (subst (λ (k : ℕ). k < slots) (sym long) meeting.1)
        ∙ ap (λ (k : ℕ). and_then (slots_in n ranks) (place_state (slots_in n ranks) slots left k stepped (stored (slots_in n ranks) stepped (memory_of n ranks used t s)))
        (λ m'. Some (linked (slots_in n ranks) o at k m'))) long

    abbrev pub Building : Option ℕ → List ℕ → List ℕ → Type 0
    Building r t₂ s₂ = StatePlaced n slots ranks used (used + 1) t₁ s₁ r t₂ s₂

    -- What the state builder promises of the new state is what the theory says of it.
    state_is : (r : Option ℕ) (t₂ s₂ : List ℕ) → Building r t₂ s₂ → (left : ℕ) → tests_left n (slot_at n s at) ≤ left + 1 → out_of n ranks r t₂ s₂ ≡ the_state left
    state_is r t₂ s₂ b left h =
        b.comes left (omega (arith, fewer_left))
        ∙ ap (λ (w : List ℕ). place_state (slots_in n ranks) slots left used w (memory_of n ranks (used + 1) t₁ s₁)) slot_new
        ∙ ap (λ (m : Memory (slots_in n ranks)). place_state (slots_in n ranks) slots left used stepped m) meeting.2

    drop_new : (k : ℕ) → used + 1 ≤ k → drop (record_words * k) t₁ ≡ drop (record_words * k) t
    drop_new k h = later (record_words * (used + 1)) (record_words * k) t₁ t (omega arith) meeting.3

    kept_new : (r : Option ℕ) (t₂ s₂ : List ℕ) → Building r t₂ s₂ → take (slot_words * used) s₂ ≡ take (slot_words * used) s
    kept_new r t₂ s₂ b = earlier (slot_words * used) (slot_words * (used + 1)) s₂ s₁ (omega arith) b.kept ∙ meeting.4

    pub placed_new_slotless : {t₂ s₂ : List ℕ} → Building None t₂ s₂ → WayLeaves None t₂ s₂
    unfolding out_of and_then
    placed_new_slotless {t₂} {s₂} b =
        let room-left = meeting.1 in
        let fewer : used + 1 ≤ slots = omega arith in
        record {
          comes = λ left h.
              sym (way_is left ∙ ap (λ (p : Placement (slots_in n ranks)). and_then (slots_in n ranks) p (λ m'. Some (linked (slots_in n ranks) o at used m'))) (sym (state_is None t₂ s₂ b left h)));
          grows = tt;
          after = tt;
          behind = b.behind ∙ drop_new slots fewer;
          kept = kept_new None t₂ s₂ b;
          beyond = b.beyond ∙ meeting.5;
        }

    linked_new : (u : ℕ) (t₂ s₂ : List ℕ) → Building (Some u) t₂ s₂ → WayLeaves (Some u) (with_next at o used t₂) s₂
    unfolding out_of and_then
    linked_new u t₂ s₂ b =
        let at-used = ready.inside in
        let more = b.grows.0 in
        let fits = b.grows.1 in
        let room-left = meeting.1 in
        let fewer : used + 1 ≤ slots = omega arith in
        record {
          comes = λ left h.
              sym (way_is left
              ∙ ap (λ (p : Placement (slots_in n ranks)). and_then (slots_in n ranks) p (λ m'. Some (linked (slots_in n ranks) o at used m'))) (sym (state_is (Some u) t₂ s₂ b left h))
              ∙ ap (λ (m : Memory (slots_in n ranks)). Some m) (memory_linked n ranks u at used o t₂ s₂ (omega arith)));
          grows = (omega arith, fits);
          after = next_behind at o used t₂ u (omega arith) ∙ b.after ∙ drop_new u more;
          behind = next_behind at o used t₂ slots (omega arith) ∙ b.behind ∙ drop_new slots fewer;
          kept = kept_new (Some u) t₂ s₂ b;
          beyond = b.beyond ∙ meeting.5;
        }

    pub placed_new : {u : ℕ} {t₂ s₂ t₃ : List ℕ} → Building (Some u) t₂ s₂ → t₃ ≡ with_next at o used t₂ → WayLeaves (Some u) t₃ s₂
    placed_new {u} {t₂} {s₂} b q = rw q (linked_new u t₂ s₂ b)

-- A state lies in slot `at`.
pub record Held (n at : ℕ) (s : List ℕ) : Type 0 where
  pub filters : n ≤ max_filters
  pub slotted : slot_words * (at + 1) ≤ length s

-- A state lies in the slot whose ways are built.
pub held : {n slots : ℕ} {ranks : List ℕ} {at used : ℕ} {t s : List ℕ} → Sized n slots ranks t s → Ready n slots ranks at used t s → Held n at s
held sizes r = record { filters = sizes.filters; slotted = omega arith }

-- The state's record lies in the table.
pub record_within : {n slots : ℕ} {ranks : List ℕ} {at used : ℕ} {t s : List ℕ} → Sized n slots ranks t s → Ready n slots ranks at used t s → record_words * (at + 1) ≤ length t
record_within sizes r = omega arith

-- The ways of a state, from what the way builder promises of each.
module _ {n slots : ℕ} {ranks : List ℕ} {at used : ℕ} {t s : List ℕ} (few : n ≤ max_filters) (ready : Ready n slots ranks at used t s) where
  abbrev StateLeaves : Option ℕ → List ℕ → List ℕ → Type 0
  StateLeaves r t' s' = StatePlaced n slots ranks at used t s r t' s'

  abbrev ways : ℕ → Placement (slots_in n ranks)
  ways left = place_state (slots_in n ranks) slots left at (slot_at n s at) (memory_of n ranks used t s)

  -- What is ready stays so with more slots used.
  ready_on : {u : ℕ} {t' s' : List ℕ} → used ≤ u → u ≤ slots → length t' ≡ length t → length s' ≡ length s → Told (slots_in n ranks) (memory_of n ranks u t' s')
      → Sized n slots ranks t s → Sized n slots ranks t' s' × Ready n slots ranks at u t' s'
  ready_on more fits lt ls told sizes = (sized_on lt ls sizes, record { inside = omega arith; within = fits; told = told })

  pub none_asked : asks_in n (slot_at n s at) ≡ false → StateLeaves (Some used) t s
  unfolding out_of
  none_asked q =
      record {
        comes = λ left _. sym (state_final (slots_in n ranks) slots left at (slot_at n s at) (memory_of n ranks used t s) q);
        grows = (omega arith, ready.within);
        after = refl;
        behind = refl;
        kept = refl;
        beyond = refl;
      }

  -- The third way starts where the second ended, the second where the first ended.
  module _ (asking : Asking n ranks (slot_at n s at)) where
    -- A state that asks has a test left, so a bound that is enough is never 0.
    one_more_lem : (p : Placement (slots_in n ranks)) → ((left : ℕ) → tests_left n (slot_at n s at) ≤ left + 1 → p ≡ ways (suc left))
        → (left : ℕ) → tests_left n (slot_at n s at) ≤ left → p ≡ ways left
    one_more_lem p more zero h = absurd (omega (arith, words_fall O.Holds asking.good asking.asks))
    one_more_lem p more (suc left) h = more left (omega arith)

    abbrev Way : Outcome → ℕ → List ℕ → List ℕ → Option ℕ → List ℕ → List ℕ → Type 0
    Way o u tᵤ sᵤ r t' s' = WayPlaced n slots ranks o at u tᵤ sᵤ r t' s'

    -- The words of the state that the ways lead from are as they were, so what a later way promises is said of them.
    came : (o : Outcome) (u : ℕ) (t' s' : List ℕ) (r : Option ℕ) (t'' s'' : List ℕ) → slot_at n s' at ≡ slot_at n s at → Way o u t' s' r t'' s''
        → (left : ℕ) → tests_left n (slot_at n s at) ≤ left + 1
        → out_of n ranks r t'' s'' ≡ place_way (slots_in n ranks) slots (place_state (slots_in n ranks) slots left) o at (slot_at n s at) (memory_of n ranks u t' s')
    came o u t' s' r t'' s'' e b left h =
        b.comes left (subst (λ (w : List ℕ). tests_left n w ≤ left + 1) (sym e) h)
        ∙ ap (λ (w : List ℕ). place_way (slots_in n ranks) slots (place_state (slots_in n ranks) slots left) o at w (memory_of n ranks u t' s')) e

    -- The records still tell of their states after a way, since those that the theory places do.
    told_on : (o : Outcome) (u u' : ℕ) (t' s' t'' s'' : List ℕ) → slot_at n s' at ≡ slot_at n s at → Told (slots_in n ranks) (memory_of n ranks u t' s')
        → Way o u t' s' (Some u') t'' s'' → Told (slots_in n ranks) (memory_of n ranks u' t'' s'')
    unfolding out_of
    told_on o u u' t' s' t'' s'' e told b =
        let left : ℕ = tests_left n (slot_at n s at) in
        subst (λ (p : Placement (slots_in n ranks)). ToldBy (slots_in n ranks) p) (sym (came o u t' s' (Some u') t'' s'' e b left (omega arith)))
        (told_way (slots_in n ranks) slots (place_state (slots_in n ranks) slots left) (told_state (slots_in n ranks) slots left) o at (slot_at n s at) (memory_of n ranks u t' s') told)

    pub first_slotless : {t₁ s₁ : List ℕ} → Way O.Holds used t s None t₁ s₁ → StateLeaves None t₁ s₁
    unfolding out_of
    first_slotless a =
        record {
          comes = one_more_lem None (λ left h. sym (state_slotless (slots_in n ranks) slots left at (slot_at n s at) (memory_of n ranks used t s) asking.asks (sym (a.comes left h))));
          grows = tt;
          after = tt;
          behind = a.behind;
          kept = a.kept;
          beyond = a.beyond;
        }

    module _ {u₁ : ℕ} {t₁ s₁ : List ℕ} (a : Way O.Holds used t s (Some u₁) t₁ s₁) where
      pub told_second : Told (slots_in n ranks) (memory_of n ranks u₁ t₁ s₁)
      told_second = told_on O.Holds used u₁ t s t₁ s₁ refl ready.told a

      pub ready_second : Sized n slots ranks t s → length t₁ ≡ length t → length s₁ ≡ length s → Sized n slots ranks t₁ s₁ × Ready n slots ranks at u₁ t₁ s₁
      ready_second sizes lt ls = ready_on a.grows.0 a.grows.1 lt ls told_second sizes

      pub slot_first : slot_at n s₁ at ≡ slot_at n s at
      slot_first = slot_kept n used at s s₁ few ready.inside a.kept

      kept_by : (s₂ : List ℕ) → take (slot_words * u₁) s₂ ≡ take (slot_words * u₁) s₁ → take (slot_words * used) s₂ ≡ take (slot_words * used) s
      kept_by s₂ e =
          let more = a.grows.0 in
          earlier (slot_words * used) (slot_words * u₁) s₂ s₁ (omega arith) e ∙ a.kept

      pub second_slotless : {t₂ s₂ : List ℕ} → Way O.Fails u₁ t₁ s₁ None t₂ s₂ → StateLeaves None t₂ s₂
      unfolding out_of
      second_slotless {t₂} {s₂} b =
          record {
            comes = one_more_lem None (λ left h.
                sym (state_slotted_slotless (slots_in n ranks) slots left at (slot_at n s at) (memory_of n ranks used t s) (memory_of n ranks u₁ t₁ s₁) asking.asks
                (sym (a.comes left h)) (sym (came O.Fails u₁ t₁ s₁ None t₂ s₂ slot_first b left h))));
            grows = tt;
            after = tt;
            behind = b.behind ∙ a.behind;
            kept = kept_by s₂ b.kept;
            beyond = b.beyond ∙ a.beyond;
          }

      module _ {u₂ : ℕ} {t₂ s₂ : List ℕ} (b : Way O.Fails u₁ t₁ s₁ (Some u₂) t₂ s₂) where
        pub told_third : Told (slots_in n ranks) (memory_of n ranks u₂ t₂ s₂)
        told_third = told_on O.Fails u₁ u₂ t₁ s₁ t₂ s₂ slot_first told_second b

        pub ready_third : Sized n slots ranks t s → length t₂ ≡ length t → length s₂ ≡ length s → Sized n slots ranks t₂ s₂ × Ready n slots ranks at u₂ t₂ s₂
        ready_third sizes lt ls = ready_on (omega (arith, a.grows.0, b.grows.0)) b.grows.1 lt ls told_third sizes

        pub slot_second : slot_at n s₂ at ≡ slot_at n s at
        slot_second =
            let inside = ready.inside in
            let more = a.grows.0 in
            slot_kept n u₁ at s₁ s₂ few (omega arith) b.kept ∙ slot_first

        kept_both : (s₃ : List ℕ) → take (slot_words * u₂) s₃ ≡ take (slot_words * u₂) s₂ → take (slot_words * used) s₃ ≡ take (slot_words * used) s
        kept_both s₃ e =
            let more = b.grows.0 in
            kept_by s₃ (earlier (slot_words * u₁) (slot_words * u₂) s₃ s₂ (omega arith) e ∙ b.kept)

        grown : (r : Option ℕ) → Grown u₂ slots r → Grown used slots r
        grown None g = tt
        grown (Some u) g =
            let one = a.grows.0 in
            let two = b.grows.0 in
            let three = g.0 in
            (omega arith, g.1)

        after_all : (r : Option ℕ) (t₃ : List ℕ) → Grown u₂ slots r → AfterKept r t₂ t₃ → AfterKept r t t₃
        after_all None t₃ g e = tt
        after_all (Some u) t₃ g e =
            let two = b.grows.0 in
            let three = g.0 in
            e
            ∙ later (record_words * u₂) (record_words * u) t₂ t₁ (omega arith) b.after
            ∙ later (record_words * u₁) (record_words * u) t₁ t (omega arith) a.after

        pub third : {r : Option ℕ} {t₃ s₃ : List ℕ} → Way O.Absent u₂ t₂ s₂ r t₃ s₃ → StateLeaves r t₃ s₃
        unfolding out_of
        third {r} {t₃} {s₃} c =
            record {
              comes = one_more_lem (out_of n ranks r t₃ s₃) (λ left h.
                  sym (state_slotted (slots_in n ranks) slots left at (slot_at n s at) (memory_of n ranks used t s) (memory_of n ranks u₁ t₁ s₁) (memory_of n ranks u₂ t₂ s₂)
                  (out_of n ranks r t₃ s₃) asking.asks (sym (a.comes left h)) (sym (came O.Fails u₁ t₁ s₁ (Some u₂) t₂ s₂ slot_first b left h))
                  (sym (came O.Absent u₂ t₂ s₂ r t₃ s₃ slot_second c left h))));
              grows = grown r c.grows;
              after = after_all r t₃ c.grows c.after;
              behind = c.behind ∙ b.behind ∙ a.behind;
              kept = kept_both s₃ c.kept;
              beyond = c.beyond ∙ b.beyond ∙ a.beyond;
            }

-- A later way finds the words of its state as they were: they still ask, and the way's measure is below the state's.
pub asking_on : (n : ℕ) (ranks : List ℕ) {w w' : List ℕ} → w' ≡ w → Asking n ranks w → Asking n ranks w'
asking_on n ranks e a = rw e a

pub way_less : (n : ℕ) {w w' : List ℕ} → w' ≡ w → 2 * tests_left n w' < 2 * tests_left n w + 1
way_less n e = rw e (omega arith)
