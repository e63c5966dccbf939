-- Looking for a state among the first states of the slots: a state whose record does not agree is another, the first that is the same decides, and longer lists of states agree.
-- Assumes nothing.
use Rattle.std.specs.Prelude.{Some, None}
use Prim.Native.Nat.{ℕ, zero, suc, ◌+◌, ◌*◌, ◌-◌, ◌≤◌, ◌<◌}
use mathlib.Core.Path.{◌≡◌, refl, sym, ap, ◌∙◌, subst}
use mathlib.Core.Bool.{true, false, not, false≢true}
use mathlib.Core.List.{List, [], ◌∷◌, ◌++◌}
use native.Mathlib.Nat.{add-zero, add-suc}
use native.Mathlib.Numerals.{add-one}
use native.Mathlib.Omega.{arith}
use lib.Dec.{eqb}
use lib.ListN.{length, take, drop, get_or, length-drop}
use lib.Seq.{length-take-le}
use Rattle.lists.specs.Filters.{max_filters}
use Rattle.lists.specs.Words.{test_list}
use Rattle.lists.specs.declared.TestWords.{TestWords}
use Rattle.std.proofs.lemmas.Bool.{or_parts}
use Rattle.std.proofs.lemmas.List.Recursion.{or_push}
use Rattle.residue.specs.laws.Choice.{never}
use Rattle.sets.specs.Sets.{tally}
use Rattle.sets.specs.laws.Members.{tally_more, get_or_tally, length_tally}
use Rattle.tables.specs.inner.Records.{agree, fresh_by, record_at, agreeing_from}
use Rattle.tables.proofs.laws.Agreeing.{agreeing_first, agreeing_none}
use Rattle.tables.specs.declared.Fresh.{Fresh}
use Rattle.slots.specs.Words.{filter_slot, slot_words}
use Rattle.slots.specs.Asking.{filters_in, question_in}
use Rattle.slots.specs.inner.Slots.{asks_in, same_words}
use Rattle.slots.specs.laws.Written.{same_words_eq}
use Rattle.machine.specs.inner.Slots.{slots_in}
use Rattle.automaton.specs.Machines.{Machine, meets, place_of}
use Rattle.automaton.specs.inner.Placing.{Told, fresh_of}
use Rattle.automaton.proofs.laws.Telling.{told_at}
use Rattle.automaton.proofs.laws.Lists.{Begins, begins_refl, begins_append, begins_trans}
use Rattle.automaton.proofs.laws.Places.{meets_append, place_begins}
use Rattle.builder.specs.inner.Memory.{slot_at, states_in, records_at, memory_of, sought_in}
use Rattle.builder.specs.inner.Promises.{Shows}
use Rattle.builder.specs.inner.Builders.{filters, state_at, Search}
use Rattle.builder.specs.declared.rooms.Builder.{Builder}
use Rattle.builder.specs.laws.WaysPlaced.{length_states}

-- The part of the slots that a call is lent is the state there, of as many filters.
abbrev pub part : List ℕ → List ℕ → ℕ → List ℕ
part words s i = take (slot_words * i + length words - slot_words * i) (drop (slot_words * i) s)

pub slot_part : (words s : List ℕ) (i : ℕ) → length words ≡ filter_slot * filters_in words → part words s i ≡ slot_at (filters_in words) s i
unfolding slot_at
slot_part words s i whole =
    let e : slot_words * i + length words - slot_words * i ≡ filter_slot * filters_in words = omega arith in
    ap (λ (k : ℕ). take k (drop (slot_words * i) s)) e

pub slot_long : (n : ℕ) (s : List ℕ) (i : ℕ) → n ≤ max_filters → slot_words * (i + 1) ≤ length s → length (slot_at n s i) ≡ filter_slot * n
unfolding slot_at
slot_long n s i few room =
    let behind = length-drop (slot_words * i) s in
    length-take-le (filter_slot * n) (drop (slot_words * i) s) (omega arith)

pub slot_filters : (n : ℕ) (s : List ℕ) (i : ℕ) → n ≤ max_filters → slot_words * (i + 1) ≤ length s → filters_in (slot_at n s i) ≡ n
slot_filters n s i few room = let long = slot_long n s i few room in omega arith

-- The question of a state as the code reads it.
pub asked_is : (b : Builder) (at : ℕ) (q : TestWords) → at < b.slots → test_list q ≡ question_in (filters_in (state_at b at)) (state_at b at)
    → not (eqb q.kind 0) ≡ asks_in (filters b) (state_at b at)
unfolding asks_in
asked_is b at q inside e =
    let scratched = b.scratched in
    let count = slot_filters (filters b) b.scratch.now at b.filters (omega arith) in
    ap (λ (ws : List ℕ). not (eqb (get_or ws 0 0) 0))
    (e ∙ ap (λ (k : ℕ). question_in k (state_at b at)) count)

-- ---- records first

-- Equal states have equal questions and sets, and each record has its state's.
pub shown : (n used : ℕ) (ranks t s c : List ℕ) (f : Fresh) → Told (slots_in n ranks) (memory_of n ranks used t s) → fresh_by f ≡ fresh_of (slots_in n ranks) c
    → (i : ℕ) → i < used → Shows n i t s c f
unfolding memory_of states_in records_at
shown n used ranks t s c f told is i h e =
    let M = slots_in n ranks in
    let met : List (List ℕ) = tally used (λ k. slot_at n s k) in
    let records : List (List ℕ) = tally used (λ k. record_at t k) in
    let state : get_or met i [] ≡ c = get_or_tally used (λ k. slot_at n s k) [] i h ∙ same_words_eq (slot_at n s i) c e in
    ap (λ (r : List ℕ). agree r (fresh_by f)) (sym (get_or_tally used (λ k. record_at t k) [] i h))
    ∙ ap (λ (w : List ℕ). agree (get_or records i []) w) (is ∙ ap (λ (x : List ℕ). fresh_of M x) (sym state))
    ∙ told_at M met records i [] told (subst (λ (m : ℕ). i < m) (sym (length_tally used (λ k. slot_at n s k))) h)

-- A record that does not agree: the state is another.
other_record : (n i : ℕ) (t s c : List ℕ) (f : Fresh) → Shows n i t s c f → agree (record_at t i) (fresh_by f) ≡ false → false ≡ same_words (slot_at n s i) c
other_record n i t s c f shows e = sym (never (same_words (slot_at n s i) c) (λ q. false≢true (sym e ∙ shows q)))

-- ---- one state more

meets_more : (M : Machine) (met : List M.State) (x s : M.State) → meets M met s ≡ false → meets M (met ++ (x ∷ [])) s ≡ M.same x s
unfolding meets
meets_more M met x s e = or_push (λ l. meets M l s) (λ y. M.same y s) refl (λ y l. refl) met x ∙ rw e

place_more : (M : Machine) (met : List M.State) (x s : M.State) → meets M met s ≡ false → M.same x s ≡ true → place_of M (met ++ (x ∷ [])) s ≡ length met
unfolding meets place_of
place_more M [] x s e q = rw q
place_more M (y ∷ met) x s e q =
    let other = or_parts (M.same y s) (meets M met s) e in
    rw (other.0, place_more M met x s other.1 q) (add-one (length met))

-- ---- the first states begin all states

tally_begins_by : {A : Type 0} (k i : ℕ) (p : ℕ → A) → Begins (tally i p) (tally (i + k) p)
unfolding tally
tally_begins_by zero i p = rw (add-zero i) (begins_refl (tally i p))
tally_begins_by (suc k) i p = rw (add-suc i k) (begins_trans (tally_begins_by k i p) (begins_append (tally (i + k) p) (p (i + k) ∷ [])))

states_begin : (n i used : ℕ) (s : List ℕ) → i ≤ used → Begins (states_in n i s) (states_in n used s)
unfolding states_in
states_begin n i used s h =
    let split : i + (used - i) ≡ used = omega arith in
    subst (λ (m : ℕ). Begins (tally i (λ k. slot_at n s k)) (tally m (λ k. slot_at n s k))) split (tally_begins_by (used - i) i (λ k. slot_at n s k))

meets_begins : (M : Machine) {met whole : List M.State} (s : M.State) → Begins met whole → meets M met s ≡ true → meets M whole s ≡ true
meets_begins M {met} s b e = rw b.grown (meets_append M met b.rest s e)

states_next : (n i : ℕ) (s : List ℕ) → states_in n (i + 1) s ≡ states_in n i s ++ (slot_at n s i ∷ [])
unfolding states_in
states_next n i s = tally_more i (λ k. slot_at n s k)

-- ---- the search

-- None of the first i states is the candidate.
abbrev pub Unmet : ℕ → ℕ → List ℕ → List ℕ → Type 0
Unmet n i s c = (ranks : List ℕ) → meets (slots_in n ranks) (states_in n i s) c ≡ false

pub unmet_none : (n : ℕ) (s c : List ℕ) → Unmet n 0 s c
unfolding meets states_in tally
unmet_none n s c ranks = refl

meets_next : (n i : ℕ) (s c ranks : List ℕ) → Unmet n i s c → meets (slots_in n ranks) (states_in n (i + 1) s) c ≡ same_words (slot_at n s i) c
meets_next n i s c ranks none =
    ap (λ (l : List (List ℕ)). meets (slots_in n ranks) l c) (states_next n i s)
    ∙ meets_more (slots_in n ranks) (states_in n i s) (slot_at n s i) c (none ranks)

pub unmet_more : (n i : ℕ) (s c : List ℕ) → Unmet n i s c → false ≡ same_words (slot_at n s i) c → Unmet n (i + 1) s c
unmet_more n i s c none e ranks = meets_next n i s c ranks none ∙ sym e

-- The states passed over, whose records do not agree, are none of them the candidate.
unmet_over : (n i k : ℕ) (s c : List ℕ) → ((j : ℕ) → i ≤ j → j < i + k → false ≡ same_words (slot_at n s j) c) → Unmet n i s c → Unmet n (i + k) s c
unmet_over n i zero s c other none = subst (λ (m : ℕ). Unmet n m s c) (sym (add-zero i)) none
unmet_over n i (suc k) s c other none =
    let next : i + k + 1 ≡ i + suc k = omega arith in
    subst (λ (m : ℕ). Unmet n m s c) next
    (unmet_more n (i + k) s c (unmet_over n i k s c (λ j low high. other j low (omega arith)) none) (other (i + k) (omega arith) (omega arith)))

-- Of the records from place i on the first k are looked at.
module _ {b : Builder} {used : ℕ} {f : Fresh} (asked : Search b used f) (i k : ℕ) (none : Unmet (filters b) i b.scratch.now b.words.now) (within : i + k ≤ used) where
  -- The records from i on, before place j, do not agree.
  unmet_up : (j : ℕ) → i ≤ j → j ≤ i + k → ((m : ℕ) → i ≤ m → m < j → agree (record_at b.table.now m) (fresh_by f) ≡ false)
      → Unmet (filters b) j b.scratch.now b.words.now
  unmet_up j low high over =
      let whole : i + (j - i) ≡ j = omega arith in
      subst (λ (m : ℕ). Unmet (filters b) m b.scratch.now b.words.now) whole
      (unmet_over (filters b) i (j - i) b.scratch.now b.words.now
      (λ (m : ℕ) (from : i ≤ m) (to : m < i + (j - i)).
      other_record (filters b) m b.table.now b.scratch.now b.words.now f (asked.shows m (omega arith)) (over m from (omega arith)))
      none)

  pub unmet_next : {r : ℕ} → Some r ≡ agreeing_from k i b.table.now (fresh_by f) → (i ≤ r) × (r < used) × Unmet (filters b) r b.scratch.now b.words.now
  unmet_next {r} e =
      let first = agreeing_first b.table.now (fresh_by f) k i r (sym e) in
      let from = first.from in
      let below = first.below in
      (from, omega arith, unmet_up r from (omega arith) first.over)

  pub unmet_all : None ≡ agreeing_from k i b.table.now (fresh_by f) → i + k ≡ used → Unmet (filters b) used b.scratch.now b.words.now
  unmet_all e all =
      subst (λ (m : ℕ). Unmet (filters b) m b.scratch.now b.words.now) all
      (unmet_up (i + k) (omega arith) (omega arith) (λ m low high. agreeing_none b.table.now (fresh_by f) k i (sym e) m low high))

pub found_at : (n i used : ℕ) (s c : List ℕ) → i < used → Unmet n i s c → true ≡ same_words (slot_at n s i) c
    → (ranks : List ℕ) → Some i ≡ sought_in n ranks (states_in n used s) c
unfolding sought_in
found_at n i used s c h none e ranks =
    let M = slots_in n ranks in
    let begins = states_begin n (i + 1) used s (omega arith) in
    let met : meets M (states_in n (i + 1) s) c ≡ true = meets_next n i s c ranks none ∙ sym e in
    let place : place_of M (states_in n used s) c ≡ i =
    place_begins M c begins met
    ∙ ap (λ (l : List (List ℕ)). place_of M l c) (states_next n i s)
    ∙ place_more M (states_in n i s) (slot_at n s i) c (none ranks) (sym e)
    ∙ length_states n i s in
    rw (meets_begins M c begins met, place)

pub found_nothing : (n used : ℕ) (s c : List ℕ) → Unmet n used s c → (ranks : List ℕ) → None ≡ sought_in n ranks (states_in n used s) c
unfolding sought_in
found_nothing n used s c none ranks = rw (none ranks)
