-- From what placing leaves to what building promises: the records are the table's front, and clearing leaves zeros.
-- Assumes nothing.
use Rattle.std.specs.Prelude.{ℕ, zero, suc, ◌+◌, ◌*◌, ◌≤◌, ◌<◌, ◌≡◌, leb, ltb, take, drop, Option, Some, None, Ok, Err}
use Rattle.std.proofs.Math.Path.{refl, ap, sym}
use Rattle.std.proofs.Common.{◌∙◌, arith, take-append-drop, take-add, length-take-le}
use Rattle.std.proofs.Math.Bool.{true, false}
use mathlib.Core.List.{List, [], ◌∷◌, ◌++◌, append-nil, append_assoc}
use Rattle.std.proofs.Math.ListN.{length, replicate, length-map}
use borrow.Author.Tests.{leb-true, leb-false, lt-ltb, le-ltb}
use Rattle.std.proofs.lemmas.Option.{cond_some}
use Rattle.refusals.specs.declared.Refusal.TheVariants.{ScratchRoom, TableRoom}
use Rattle.refusals.specs.declared.Refused.{Refused}
use Rattle.refusals.specs.Numbers.{unplaced}
use Rattle.lists.specs.Filters.{Filter, filters_of}
use Rattle.lists.specs.Refusals.{listed}
use Rattle.lists.specs.declared.Counts.{Counts}
use Rattle.sets.specs.Sets.{tally}
use Rattle.words.specs.Lent.{cleared}
use Rattle.tables.specs.Tables.{record_words, slots_of}
use Rattle.tables.specs.inner.Records.{record_at}
use Rattle.slots.specs.Words.{slot_words}
use Rattle.slots.specs.inner.Words.{written}
use Rattle.automaton.specs.Machines.{records_of, flat}
use Rattle.automaton.specs.inner.Placing.{Memory}
use Rattle.machine.specs.Box.{states_of, records_in}
use Rattle.machine.specs.inner.Slots.{slots_in}
use Rattle.machine.specs.inner.Placed.{all_placed}
use Rattle.builder.specs.Outcome.{Built, table_words, scratch_words, refused, no_room, placed, by_room, outcome_by, outcome, Answered}
use Rattle.builder.specs.inner.Memory.{records_at, memory_of, out_of}
use Rattle.builder.specs.laws.Memory.{cond_none}
use Rattle.builder.specs.laws.WaysPlaced.{length_states}
use Rattle.builder.specs.inner.Started.{Started}

-- The records that the table's front holds are its words.
flat_append : (a b : List (List ℕ)) → flat (a ++ b) ≡ flat a ++ flat b
unfolding flat
flat_append [] b = refl
flat_append (x ∷ a) b = ap (λ (l : List ℕ). x ++ l) (flat_append a b) ∙ sym (append_assoc x (flat a) (flat b))

pub records_front : (u : ℕ) (t : List ℕ) → flat (records_at u t) ≡ take (record_words * u) t
unfolding records_at record_at flat tally
records_front zero t = refl
records_front (suc u) t =
    let one : record_words * suc u ≡ record_words * u + record_words = omega arith in
    flat_append (records_at u t) (record_at t u ∷ [])
    ∙ ap (λ (l : List ℕ). l ++ (record_at t u ++ [])) (records_front u t)
    ∙ ap (λ (l : List ℕ). take (record_words * u) t ++ l) (append-nil (record_at t u))
    ∙ sym (take-add (record_words * u) record_words t)
    ∙ ap (λ (k : ℕ). take k t) (sym one)

enough : (t s : List ℕ) → slot_words * slots_of t ≤ length s → ltb (length s) (scratch_words t) ≡ false
unfolding scratch_words
enough t s h = le-ltb (length s) (slot_words * slots_of t) h

module _ {n : ℕ} {ranks : List ℕ} {fs : List Filter} {t s t' s' : List ℕ} where
  -- All states found a slot: the records are those of the states, in the order of their numbers.
  module _ (u : ℕ) (came : Started n (slots_of t) ranks fs t s (Some u) t' s') where
    all_fit : (leb (length (states_of fs)) (slots_of t) ≡ true) × (all_placed n ranks fs ≡ memory_of n ranks u t' s')
    unfolding out_of
    all_fit = cond_some (leb (length (states_of fs)) (slots_of t)) (all_placed n ranks fs) (memory_of n ranks u t' s') (sym came.comes)

    fits : length (states_of fs) ≤ slots_of t
    fits = leb-true (length (states_of fs)) (slots_of t) all_fit.0

    pub states_are : u ≡ length (states_of fs)
    unfolding memory_of
    states_are =
        sym (length_states n u s')
        ∙ ap (λ (m : Memory (slots_in n ranks)). length m.met) (sym all_fit.1)
        ∙ length-map (states_of fs) written

    front_is : take (record_words * u) t' ≡ records_in fs
    unfolding memory_of records_in records_of
    front_is = sym (records_front u t') ∙ ap (λ (m : Memory (slots_in n ranks)). flat m.records) (sym all_fit.1)

    -- The records' words are as many as the table's front has: u slots lie within the table.
    front_long : record_words * slots_of t ≤ length t' → length (records_in fs) ≡ record_words * u
    front_long h =
        let below = came.grows.1 in
        ap length (sym front_is) ∙ length-take-le (record_words * u) t' (omega arith)

    table_is : record_words * slots_of t ≤ length t' → t' ≡ records_in fs ++ drop (length (records_in fs)) t
    table_is h =
        sym (take-append-drop (record_words * u) t')
        ∙ ap (λ (l : List ℕ). l ++ drop (record_words * u) t') front_is
        ∙ ap (λ (l : List ℕ). records_in fs ++ l) came.after
        ∙ ap (λ (k : ℕ). records_in fs ++ drop k t) (sym (front_long h))

  cleared_scratch : (r : Option ℕ) → Started n (slots_of t) ranks fs t s r t' s' → cleared (slot_words * slots_of t) s' ≡ cleared (scratch_words t) s
  unfolding cleared scratch_words
  cleared_scratch r came = ap (λ (l : List ℕ). replicate (slot_words * slots_of t) 0 ++ l) came.beyond

  pub built_states : {u : ℕ} → Started n (slots_of t) ranks fs t s (Some u) t' s' → slot_words * slots_of t ≤ length s → record_words * slots_of t ≤ length t'
      → Answered (by_room fs t s) (Ok u) t' (cleared (slot_words * slots_of t) s')
  unfolding by_room placed
  built_states {u} came hs ht =
      let same : by_room fs t s ≡ placed fs t s = rw (enough t s hs, le-ltb (slots_of t) (length (states_of fs)) (fits u came)) in
      rw same (record { answer = ap Ok (states_are u came); table = table_is u came ht; scratch = cleared_scratch (Some u) came })

  cleared_table : Started n (slots_of t) ranks fs t s None t' s' → cleared (record_words * slots_of t) t' ≡ cleared (table_words t) t
  unfolding cleared table_words
  cleared_table came = ap (λ (l : List ℕ). replicate (record_words * slots_of t) 0 ++ l) came.behind

  -- A state found no slot: the states are more than the slots.
  more : Started n (slots_of t) ranks fs t s None t' s' → slots_of t < length (states_of fs)
  unfolding out_of
  more came = leb-false (length (states_of fs)) (slots_of t) (cond_none (leb (length (states_of fs)) (slots_of t)) (all_placed n ranks fs) (sym came.comes))

  pub built_slotless : Started n (slots_of t) ranks fs t s None t' s' → slot_words * slots_of t ≤ length s
      → Answered (by_room fs t s) (Err (unplaced TableRoom)) (cleared (record_words * slots_of t) t') (cleared (slot_words * slots_of t) s')
  unfolding by_room no_room
  built_slotless came hs =
      let same : by_room fs t s ≡ no_room t s = rw (enough t s hs, lt-ltb (slots_of t) (length (states_of fs)) (more came)) in
      rw same (record { answer = refl; table = cleared_table came; scratch = cleared_scratch None came })

-- A number of states is no refusal.
pub states_unrefused : (n : ℕ) (r : Refused ℕ) → ◌≡◌ {A = Built} (Ok n) (Err r) → ⊥
states_unrefused n r e = cc

-- The outcome goes by what reading the list comes to.
pub answered_refused : (l t s : List ℕ) {r : Refused ℕ} → listed l ≡ Err r → Answered (outcome l t s) (Err r) t s
unfolding outcome outcome_by refused
answered_refused l t s e = rw e (record { answer = refl; table = refl; scratch = refl })

pub answered_accepted : (l t s : List ℕ) {c : Counts} → listed l ≡ Ok c → {b : Built} {t' s' : List ℕ} → Answered (by_room (filters_of l) t s) b t' s'
    → Answered (outcome l t s) b t' s'
unfolding outcome outcome_by
answered_accepted l t s e a = rw e a

pub answered_short : (l t s : List ℕ) → length s < slot_words * slots_of t → Answered (by_room (filters_of l) t s) (Err (unplaced ScratchRoom)) t s
unfolding by_room refused scratch_words
answered_short l t s h = rw (lt-ltb (length s) (slot_words * slots_of t) h) (record { answer = refl; table = refl; scratch = refl })
