-- A turn of the walk: the words are those of the state that it has reached, so what the code reads off them is what the definition says of the state.
--   answer                   what the whole walk answers
--   Walking fs t m r w k n   the walk has come to record n with k questions; w are the words of its state, and what is left of the walk answers the whole
--   state_counts             of how many filters the words of a state are
--   walking_start            so it is at record 0 with the words of the start
--   copied                   words copied over as many others
-- A turn with the question q: refused_here, lit_here, dark_here, Asking (there is a question), asking, gone_astray, gone_on.
-- Assumes nothing.
use Rattle.std.specs.Prelude.{Option, Ok, Err}
use Prim.Native.Nat.{ℕ, suc, ◌+◌, ◌-◌, ◌≤◌, ◌<◌}
use native.Mathlib.Nat.{sub-zero}
use native.Mathlib.Omega.{arith}
use mathlib.Core.Path.{◌≡◌, sym, ap, ap₂, ◌∙◌}
use mathlib.Core.Bool.{true, false, not, false≢true, not-not}
use mathlib.Core.List.{List, ◌++◌, append-nil}
use lib.Dec.{eqb}
use lib.ListN.{length, drop, get_or}
use lib.Seq.{drop-length}
use borrow.Author.Tests.{eq-eqb, ne_eqb}
use Rattle.residue.specs.declared.Outcome.{Outcome}
use Rattle.refusals.specs.declared.Refusal.TheVariants.{Table}
use Rattle.refusals.specs.Numbers.{unplaced}
use Rattle.sets.specs.Sets.{some}
use Rattle.sets.specs.laws.Members.{zero_tally}
use Rattle.lists.specs.declared.TestWords.{TestWords}
use Rattle.lists.specs.Filters.{Item, Filter, max_filters, item_of, filters_of, tests_in}
use Rattle.lists.specs.Words.{kind_of, item_words, test_list, words_of}
use Rattle.lists.specs.Ranks.{rank_sets}
use Rattle.lists.specs.Refusals.{listed, counts}
use Rattle.lists.specs.laws.Accepted.{accepted_count}
use Rattle.lists.specs.inner.Well.{well_filters}
use Rattle.lists.specs.laws.Items.{kind_some, item_round, list_words}
use Rattle.states.specs.States.{State, standing, is_held, start, nothing, ask, question_of, step_by}
use Rattle.states.specs.Runs.{way_of, advance}
use Rattle.states.specs.inner.Remaining.{remaining}
use Rattle.states.specs.inner.Well.{well_state}
use Rattle.states.proofs.laws.Keeps.{by_question, advance_ask}
use Rattle.states.proofs.laws.Measure.{start_remaining, asking_remaining, step_falls}
use Rattle.states.proofs.laws.Standings.{length_start, length_step}
use Rattle.states.proofs.laws.Well.{well_start, well_step}
use Rattle.slots.specs.Words.{question_words}
use Rattle.slots.specs.inner.Words.{written}
use Rattle.slots.specs.inner.Slots.{held_set, step_question}
use Rattle.slots.specs.Asking.{question_in, filters_in}
use Rattle.slots.specs.laws.Fitting.{fits_slot, fits_start, fits_step}
use Rattle.slots.specs.laws.Written.{question_written, held_written, by_written}
use Rattle.tables.specs.Tables.{next_at}
use Rattle.tables.specs.inner.Records.{record_at, way_at}
use Rattle.lamp.specs.Lamp.{Answer, is_as_is, some_held, lamp_next, lamp_from}
use Rattle.lamp.specs.declared.Lamp.TheVariants.{Lit, Dark}
use Rattle.lamp.specs.inner.Records.{record_asks}
use Rattle.lamp.proofs.laws.Records.{question_test, as_asked, next_word}
use Rattle.lamp.proofs.laws.Turns.{turn_refused, turn_lit, turn_dark, turn_astray, turn_goes}

-- ---- words copied over as many

pub copied : (a b : List ℕ) → length a ≡ length b → a ++ drop (length a) b ≡ a
copied a b e = ap (λ (u : List ℕ). a ++ u) (ap (λ (n : ℕ). drop n b) e ∙ drop-length b) ∙ append-nil a

-- ---- the walk

abbrev pub answer : List Filter → List ℕ → ℕ → (ℕ → Option ℕ) → Answer
answer fs t m r = lamp_from fs t m r (tests_in fs) 0 0 (start fs)

pub record Walking (fs : List Filter) (t : List ℕ) (m : ℕ) (r : ℕ → Option ℕ) (w : List ℕ) (k n : ℕ) : Type 0 where
  pub state : State
  pub inside : n < m
  pub words : w ≡ written state
  pub long : length state ≡ length fs
  pub fit : fits_slot state ≡ true
  pub well : well_state state ≡ true
  pub few : k + remaining state ≤ tests_in fs
  pub rest : lamp_from fs t m r (tests_in fs - k) k n state ≡ answer fs t m r

-- There is a question, the one that the words q mean; the record asks it, and no filter is held.
pub record Asking (fs : List Filter) (t : List ℕ) (m : ℕ) (r : ℕ → Option ℕ) (w : List ℕ) (k n : ℕ) (q : TestWords) : Type 0 where
  pub walking : Walking fs t m r w k n
  pub item : Item
  pub asks : question_of walking.state ≡ ask item
  pub means : item_of (test_list q) ≡ item
  pub as_is : is_as_is t n (question_of walking.state) ≡ true
  pub none_held : some_held walking.state ≡ false
  pub counted : length fs ≡ filters_in w
  pub few_filters : length fs ≤ max_filters

-- Words as long as those of an accepted list's filters are a state's.
pub state_counts : (l s w : List ℕ) (k : ℕ) → listed l ≡ Ok (counts (filters_in s) k) → length w ≡ length s → (length (filters_of l) ≡ filters_in w) × (length (filters_of l) ≤ max_filters)
state_counts l s w k e long =
    let count = accepted_count l (filters_in s) k e in
    (omega (arith, count.0), omega (arith, count.0, count.2))

module _ (fs : List Filter) (t : List ℕ) (m : ℕ) (r : ℕ → Option ℕ) where
  pub walking_start : (w : List ℕ) → well_filters fs ≡ true → 0 < m → w ≡ written (start fs) → Walking fs t m r w 0 0
  walking_start w h l e =
      record {
        state = start fs;
        inside = l;
        words = e;
        long = length_start fs;
        fit = fits_start fs h;
        well = well_start fs h;
        few = omega (arith, start_remaining fs);
        rest = rw (sub-zero (tests_in fs));
      }

  module _ {w : List ℕ} {k n : ℕ} (x : Walking fs t m r w k n) (counted : length fs ≡ filters_in w) (few : length fs ≤ max_filters)
      (q : TestWords) (words : test_list q ≡ question_in (filters_in w) w) (found : List ℕ) (read : found ≡ record_at t n) where
    abbrev s : State
    s = x.state

    question_list : test_list q ≡ question_words (question_of s)
    question_list = words ∙ ap (question_in (filters_in w)) x.words ∙ question_written (filters_in w) s (x.long ∙ counted) x.fit

    question_is : q ≡ question_test (question_of s)
    question_is = sym (list_words q) ∙ ap words_of question_list

    asked_is : record_asks found q ≡ is_as_is t n (question_of s)
    asked_is = ap₂ record_asks read question_is ∙ as_asked t n (question_of s)

    held_is : eqb (held_set (filters_in w) w) 0 ≡ not (some_held s)
    unfolding some_held
    held_is =
        ap₂ (λ (j : ℕ) (u : List ℕ). eqb (held_set j u) 0) (sym counted) x.words ∙
        ap (λ (h : ℕ). eqb h 0) (held_written fs s x.long few x.fit) ∙
        zero_tally (length fs) (λ i. is_held (standing s i)) ∙
        ap (λ (j : ℕ). not (some j (λ i. is_held (standing s i)))) (sym x.long)

    kind_is : (p : Item) → question_of s ≡ ask p → q.kind ≡ kind_of p.test
    unfolding question_words item_words words_of
    kind_is p e = ap (λ (a : TestWords). a.kind) (question_is ∙ ap question_test e)

    no_question : q.kind ≡ 0 → question_of s ≡ nothing
    no_question z =
        by_question (question_of s ≡ nothing) s (λ e. e)
        (λ p e. absurd (false≢true (sym (kind_some p.test) ∙ eq-eqb _ 0 (sym (kind_is p e) ∙ z))))

    -- The record asks something else.
    pub refused_here : record_asks found q ≡ false → Err (unplaced Table) ≡ answer fs t m r
    refused_here e = sym (turn_refused fs t m r (tests_in fs - k) k n s (sym asked_is ∙ e)) ∙ x.rest

    module _ (right : record_asks found q ≡ true) (held : ℕ) (told : held ≡ held_set (filters_in w) w) where
      as_is : is_as_is t n (question_of s) ≡ true
      as_is = sym asked_is ∙ right

      pub lit_here : (held ≡ 0 → ⊥) → Ok (Lit k) ≡ answer fs t m r
      lit_here h =
          let lit = sym (not-not (some_held s)) ∙ ap not (sym held_is ∙ ne_eqb _ 0 (λ (z : held_set (filters_in w) w ≡ 0). h (told ∙ z))) in
          sym (turn_lit fs t m r (tests_in fs - k) k n s as_is lit) ∙ x.rest

      module _ (none : held ≡ 0) where
        none_is : some_held s ≡ false
        none_is = sym (not-not (some_held s)) ∙ ap not (sym held_is ∙ eq-eqb _ 0 (sym told ∙ none))

        pub dark_here : q.kind ≡ 0 → Ok (Dark k) ≡ answer fs t m r
        dark_here z = sym (turn_dark fs t m r (tests_in fs - k) k n s as_is none_is (no_question z)) ∙ x.rest

        pub asking : (q.kind ≡ 0 → ⊥) → Asking fs t m r w k n q
        unfolding question_words item_words words_of
        asking z =
            by_question (Asking fs t m r w k n q) s
            (λ e. absurd (z (ap (λ (a : TestWords). a.kind) (question_is ∙ ap question_test e))))
            (λ p e.
            record {
              walking = x;
              item = p;
              asks = e;
              means = ap item_of (question_list ∙ ap question_words e) ∙ item_round p;
              as_is = as_is;
              none_held = none_is;
              counted = counted;
              few_filters = few;
            })

-- A question that comes to o, and the record's next number at o.
module _ {fs : List Filter} {t : List ℕ} {m : ℕ} {r : ℕ → Option ℕ} {w : List ℕ} {k n : ℕ} {q : TestWords} (y : Asking fs t m r w k n q)
    (o : Outcome) (way : o ≡ way_of r (item_of (test_list q))) (found : List ℕ) (read : found ≡ record_at t n) (next : ℕ) (leads : next ≡ get_or found (next_at o) 0) where
  abbrev here : State
  here = y.walking.state

  abbrev p : Item
  p = y.item

  way_is : o ≡ way_of r p
  way_is = way ∙ ap (way_of r) y.means

  next_is : lamp_next t r n p ≡ next
  unfolding lamp_next way_at
  next_is = ap (way_at t n) (sym way_is) ∙ sym (leads ∙ ap (λ (x : List ℕ). get_or x (next_at o) 0) read ∙ next_word t n o)

  abbrev left : ℕ
  left = tests_in fs - (k + 1)

  some_left : tests_in fs - k ≡ suc left
  some_left = let bound = y.walking.few in omega (arith, asking_remaining here p y.asks)

  pub gone_astray : m ≤ next → Err (unplaced Table) ≡ answer fs t m r
  gone_astray l =
      sym (turn_astray fs t m r left k n here y.as_is y.none_held p y.asks (rw next_is l)) ∙
      ap (λ (a : ℕ). lamp_from fs t m r a k n here) (sym some_left) ∙
      y.walking.rest

  pub gone_on :
      (ranks : List ℕ) → ranks ≡ rank_sets fs → next < m → (w' : List ℕ) → w' ≡ step_question (filters_in w) ranks o (item_of (test_list q)) w → Walking fs t m r w' (k + 1) next
  gone_on ranks ranked l w' stepped =
      let x = y.walking in
      let after = step_by fs o p here in
      let e : advance fs r here ≡ after = advance_ask fs r p here y.asks ∙ ap (λ (u : Outcome). step_by fs u p here) (sym way_is) in
      let falls = step_falls fs o p here x.well y.asks in
      let bound = x.few in
      let few = y.few_filters in
      record {
        state = after;
        inside = l;
        words =
            stepped ∙
            ap₂ (λ (j : ℕ) (g : List ℕ). step_question j g o (item_of (test_list q)) w) (sym y.counted) ranked ∙
            ap₂ (λ (i : Item) (u : List ℕ). step_question (length fs) (rank_sets fs) o i u) y.means x.words ∙
            by_written fs here x.long few x.fit o p;
        long = length_step fs o p here ∙ x.long;
        fit = fits_step fs o p here x.fit;
        well = well_step fs o p here x.well;
        few = omega arith;
        rest =
            ap₂ (λ (j : ℕ) (u : State). lamp_from fs t m r left (k + 1) j u) (sym next_is) (sym e) ∙
            sym (turn_goes fs t m r left k n here y.as_is y.none_held p y.asks (rw next_is l)) ∙
            ap (λ (a : ℕ). lamp_from fs t m r a k n here) (sym some_left) ∙
            x.rest;
      }

-- So the questions left fall, and there are no more than tests in the list.
pub fewer_left : {fs : List Filter} {t : List ℕ} {m : ℕ} {r : ℕ → Option ℕ} {w : List ℕ} {k n : ℕ} {q : TestWords} → Asking fs t m r w k n q → k < tests_in fs
fewer_left y = let bound = y.walking.few in omega (arith, asking_remaining y.walking.state y.item y.asks)
