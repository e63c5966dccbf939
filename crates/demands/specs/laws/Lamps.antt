-- The lamp over a table: what is damaged is refused, and a table whose records ask document 01's questions is not.
--   damage_refused     a damaged record is never what document 01 gives for a state of an accepted list
--   labelled_lamp      over a table whose records are given the states that document 01 gives them the walk is not refused
-- Assumes nothing.
use Rattle.std.specs.Prelude.{ℕ, zero, suc, ◌+◌, ◌≤◌, ◌<◌, ◌≡◌, false, ◌||◌, List, eqb, ltb, length, Option, Ok}
use Rattle.std.proofs.Common.{arith, sym, ap, ◌∙◌, ⊎_elim, ltb-true, le-ltb, ne_eqb}
use Rattle.std.proofs.Math.Path.{refl}
use Rattle.std.proofs.Math.Bool.{true}
use Rattle.residue.specs.laws.Choice.{by_test, never, clash}
use Rattle.fields.specs.Ethernet.{max_frame}
use Rattle.fields.specs.Fields.{field}
use Rattle.fields.specs.Widths.{field_count}
use Rattle.lists.specs.Filters.{Item, Filter, filters_of, tests_in, kind_at}
use Rattle.lists.specs.Refusals.{counts, listed}
use Rattle.states.specs.States.{State, nothing, ask, question_of}
use Rattle.states.specs.Runs.{way_of, advance}
use Rattle.states.specs.inner.Choices.{Picked}
use Rattle.states.proofs.laws.Keeps.{by_question, question_left, advance_ask}
use Rattle.states.proofs.laws.Well.{well_left_lem, item_field}
use Rattle.states.specs.inner.Well.{well_state}
use Rattle.tables.specs.Tables.{slots_of, word_of}
use Rattle.tables.specs.inner.Records.{way_at}
use Rattle.slots.specs.Words.{question_words}
use Rattle.matcher.specs.Walk.{damaged}
use Rattle.labels.specs.inner.Labelled.{FinalRecord, AskingRecord, LabelledBy}
use Rattle.labels.proofs.laws.Courses.{undamaged}
use Rattle.lamp.specs.Lamp.{numbers_of, is_as_is, some_held, lamp_next, lamp_from, lamp_of}
use Rattle.lamp.proofs.laws.Records.{words_as_is, as_is_words, as_is_final}
use Rattle.lamp.proofs.laws.Turns.{turn_lit, turn_dark, turn_spent, turn_goes, lamp_walks}

-- ---- damage

final_whole : (t : List ℕ) (n : ℕ) → word_of t n kind_at ≡ 0 → damaged t n ≡ false
unfolding damaged
final_whole t n e = rw e

pub damage_refused : (t : List ℕ) (n : ℕ) (s : State) → well_state s ≡ true → damaged t n ≡ true → is_as_is t n (question_of s) ≡ false
damage_refused t n s h d =
    never (is_as_is t n (question_of s))
    (λ is.
    by_question ⊥ s
    (λ e. clash (damaged t n) d (final_whole t n (as_is_final t n (rw e at is))))
    (λ q e.
    let inside = ltb-true q.field field_count (item_field q (well_left_lem s q h (question_left q s e))) in
    clash (damaged t n) d (undamaged t n q (as_is_words t n q (rw e at is)) inside)))

-- ---- a labelled table

module _ {fs : List Filter} {t : List ℕ} {m : ℕ} (x : LabelledBy Picked fs t m) (r : ℕ → Option ℕ) where
  abbrev Passes : ℕ → ℕ → ℕ → Type 0
  Passes a k n = (numbers_of (lamp_from fs t m r a k n (x.give n))).refusal ≡ 0

  next_way : (n : ℕ) (q : Item) → lamp_next t r n q ≡ way_at t n (way_of r q)
  unfolding lamp_next way_at
  next_way n q = refl

  final_passes : (a k n : ℕ) → FinalRecord t n (x.give n) → Passes a k n
  unfolding question_words
  final_passes a k n f =
      let s = x.give n in
      let is : is_as_is t n (question_of s) ≡ true = rw f.none (words_as_is t n nothing f.zeros) in
      by_test (Passes a k n) (some_held s)
      (λ held. rw (turn_lit fs t m r a k n s is held))
      (λ none. rw (turn_dark fs t m r a k n s is none f.none))

  asking_is : (n : ℕ) (y : AskingRecord Picked fs t m x.give n) → is_as_is t n (question_of (x.give n)) ≡ true
  unfolding question_words
  asking_is n y = rw y.may (words_as_is t n (ask y.question) y.words)

  labelled_passes : (a k n : ℕ) → n < m → Passes a k n
  labelled_passes zero k n l =
      ⊎_elim (final_passes zero k n)
      (λ (y : AskingRecord Picked fs t m x.give n).
      let s = x.give n in
      let is = asking_is n y in
      by_test (Passes zero k n) (some_held s)
      (λ held. rw (turn_lit fs t m r zero k n s is held))
      (λ none. rw (turn_spent fs t m r zero k n s is none)))
      (x.each n l)
  labelled_passes (suc a) k n l =
      ⊎_elim (final_passes (suc a) k n)
      (λ (y : AskingRecord Picked fs t m x.give n).
      let s = x.give n in
      let q = y.question in
      let is = asking_is n y in
      by_test (Passes (suc a) k n) (some_held s)
      (λ held. rw (turn_lit fs t m r (suc a) k n s is held))
      (λ none.
      let o = way_of r q in
      let inside = y.inside o in
      let to : advance fs r s ≡ x.give (way_at t n o) = advance_ask fs r q s y.may ∙ sym (y.leads o) in
      rw (turn_goes fs t m r a k n s is none q y.may (rw (next_way n q) inside), next_way n q, to) (labelled_passes a (k + 1) (way_at t n o) inside)))
      (x.each n l)

-- So the lamp is not refused for a list that is accepted and a frame that is not too long.
pub labelled_lamp :
    (l f : List ℕ) (p : ℕ) (t : List ℕ) (m c k : ℕ) → listed l ≡ Ok (counts c k) → length f ≤ max_frame → LabelledBy Picked (filters_of l) t m →
    (numbers_of (lamp_of l f p t m)).refusal ≡ 0
labelled_lamp l f p t m c k e short x =
    let fs = filters_of l in
    let some = x.some in
    let fits : (eqb m 0 || ltb (slots_of t) m) ≡ false = rw (ne_eqb m 0 (λ (z : m ≡ 0). omega arith), le-ltb (slots_of t) m x.fits) in
    let start : lamp_from fs t m (field f p) (tests_in fs) 0 0 (x.give 0) ≡ lamp_of l f p t m =
    ap (lamp_from fs t m (field f p) (tests_in fs) 0 0) x.first ∙ sym (lamp_walks l f p t m c k e short fits) in
    rw (← start) (labelled_passes x (field f p) (tests_in fs) 0 0 some)
