-- Where a walk over a labelled table ends: at the record of the state that a path of the frame leads to, by the table's own questions.
--   Course x v a n   the walk from record n with a questions allowed: the record that it ends at, how many questions it asks, whether some met a cut
--                    field, and the path of its states
use Prim.Native.Nat.{ℕ, zero, suc, ◌+◌, ◌≤◌, ◌<◌}
use Rattle.std.proofs.Common.{arith, zero-add, suc-add, sym, ◌∙◌}
use Rattle.std.proofs.Math.Nat.{add-zero, le_refl}
use Rattle.std.specs.Prelude.{◌≡◌, ◌⊎◌, Bool, ◌||◌, eqb, Option, None, Some}
use Rattle.std.proofs.Math.Path.{refl, ap, ap₂, subst}
use Rattle.std.proofs.Math.Logic.{inl, inr, ⊎_elim}
use Rattle.std.proofs.Math.Bool.{true, false, cond, or-false, or_assoc}
use mathlib.Core.List.{List, [], ◌∷◌}
use Rattle.std.proofs.Math.ListN.{get_or}
use borrow.Author.Tests.{ltb-true, lt-ltb, lt-leb}
use Rattle.residue.specs.Tests.{holds}
use Rattle.residue.specs.Facts.{outcome_of}
use Rattle.residue.specs.declared.Outcome.TheVariants.{Holds, Fails}
use Rattle.fields.specs.Widths.{field_count}
use Rattle.fields.specs.Seen.{is_cut}
use Rattle.fields.specs.declared.Seen.{Seen}
use Rattle.lists.specs.Words.{kind_of, item_words}
use Rattle.lists.specs.Filters.{Item, Filter, item_of, kind_at, field_at}
use Rattle.lists.specs.laws.Items.{kind_some, kind_known, item_round}
use Rattle.states.specs.States.{State, nothing, question_of, step_by}
use Rattle.states.specs.Runs.{way_of}
use Rattle.states.specs.inner.Choices.{Leads, leads_none, leads_more, Chosen, OfFrame}
use Rattle.states.proofs.laws.Well.{item_field}
use Rattle.states.proofs.laws.Choices.{path_of, path_free}
use Rattle.states.proofs.laws.Well.{well_left_lem, well_step, well_leads}
use Rattle.states.specs.inner.Well.{well_state}
use Rattle.states.proofs.laws.Keeps.{by_question, left_asks}
use Rattle.tables.specs.Tables.{word_of, next_at, holds_at, fails_at}
use Rattle.tables.specs.inner.Records.{question_at, way_at}
use Rattle.matcher.specs.Walk.{found_at, damaged, next_by, next_of, cut_of, walk_from}
use Rattle.labels.specs.Labels.{ended_by, shown_at, readings}
use Rattle.labels.specs.inner.Labelled.{FinalRecord, AskingRecord, met_on, LabelledBy}
use Rattle.labels.proofs.laws.Turns.{walk_ends, walk_stops, walk_goes}

-- ---- the words of a question

final_kind : (t : List ℕ) (n : ℕ) → question_at t n ≡ 0 ∷ 0 ∷ 0 ∷ 0 ∷ [] → word_of t n kind_at ≡ 0
unfolding question_at
final_kind t n zeros = ap (λ (w : List ℕ). get_or w 0 0) zeros

module _ (t : List ℕ) (n : ℕ) (q : Item) (words : question_at t n ≡ item_words q) where
  kind_at_lem : word_of t n kind_at ≡ kind_of q.test
  unfolding question_at item_words
  kind_at_lem = ap (λ (w : List ℕ). get_or w 0 0) words

  item_at : item_of (question_at t n) ≡ q
  item_at = ap item_of words ∙ item_round q

  field_at_lem : word_of t n field_at ≡ q.field
  unfolding question_at item_of
  field_at_lem = ap (λ (x : Item). x.field) item_at

  not_final : eqb (word_of t n kind_at) 0 ≡ false
  not_final = rw kind_at_lem (kind_some q.test)

  pub undamaged : q.field < field_count → damaged t n ≡ false
  unfolding damaged
  undamaged inside = rw (kind_at_lem, field_at_lem, kind_known q.test, kind_some q.test, lt-leb field_count q.field inside)

  next_by_lem : (x : Option ℕ) → next_by t n x ≡ way_at t n (outcome_of q.test x)
  unfolding next_by way_at next_at outcome_of question_at item_of
  next_by_lem None = refl
  next_by_lem (Some x) =
      ap (λ (u : Item). cond (holds u.test x) (word_of t n holds_at) (word_of t n fails_at)) item_at ∙ go (holds q.test x)
    where
      go : (b : Bool) → cond b (word_of t n holds_at) (word_of t n fails_at) ≡ way_at t n (cond b Holds Fails)
      go true = refl
      go false = refl

  next_of_lem : (v : ℕ → Seen) → next_of t v n ≡ way_at t n (way_of (readings v) q)
  unfolding next_of way_of
  next_of_lem v = ap (λ (i : ℕ). next_by t n (readings v i)) field_at_lem ∙ next_by_lem (readings v q.field)

  cut_of_lem : (v : ℕ → Seen) → cut_of t v n ≡ is_cut (v q.field)
  unfolding cut_of
  cut_of_lem v = ap (λ (i : ℕ). is_cut (v i)) field_at_lem

-- ---- the walk

module _ {May : Item → State → Type 0} {fs : List Filter} {t : List ℕ} {m : ℕ} (x : LabelledBy May fs t m) (v : ℕ → Seen) where
  pub record Course (a n : ℕ) : Type 0 where
    pub end : ℕ
    pub count : ℕ
    pub inside : end < m
    pub met : Bool
    pub path : Leads fs (OfFrame (readings v) May) count (x.give n) (x.give end)
    pub marked : met_on v path ≡ met
    pub within : count ≤ a
    pub ended : (count ≡ a) ⊎ (question_of (x.give end) ≡ nothing)
    -- With d more allowed it goes on from there.
    pub on : (d k : ℕ) (b : Bool) → walk_from t m v (a + d) k b n ≡ walk_from t m v d (k + count) (b || met) end

  module _ (chosen : (q : Item) (s : State) → May q s → Chosen q s) where
    field_inside : (n : ℕ) → well_state (x.give n) ≡ true → (y : AskingRecord May fs t m x.give n) → y.question.field < field_count
    field_inside n h y =
        let q = y.question in
        ltb-true q.field field_count (item_field q (well_left_lem (x.give n) q h (chosen q (x.give n) y.may)))

    -- What is shown at a record where nothing more is allowed.
    pub stopped_shows : (k : ℕ) (b : Bool) (n : ℕ) → n < m → well_state (x.give n) ≡ true → walk_from t m v 0 k b n ≡ shown_at fs (x.give n) k b
    unfolding shown_at ended_by found_at
    stopped_shows k b n l h =
        ⊎_elim
        (λ (f : FinalRecord t n (x.give n)). walk_ends t m v k b n 0 (final_kind t n f.zeros) ∙ rw (x.sures n l, x.outs n l, f.none))
        (λ (y : AskingRecord May fs t m x.give n).
        let q = y.question in
        by_question (walk_from t m v 0 k b n ≡ shown_at fs (x.give n) k b) (x.give n)
        (λ e. absurd (left_asks q (x.give n) (chosen q (x.give n) y.may) e))
        (λ p e.
        walk_stops t m v k b n (undamaged t n q y.words (field_inside n h y)) (not_final t n q y.words) ∙ rw (x.sures n l, x.outs n l, e)))
        (x.each n l)

    pub walk_course : (a n : ℕ) → n < m → well_state (x.give n) ≡ true → Course a n
    unfolding met_on
    walk_course zero n l h =
        record {
          end = n;
          count = 0;
          met = false;
          inside = l;
          path = leads_none;
          marked = refl;
          within = le_refl 0;
          ended = inl refl;
          on = λ d k b. rw (zero-add d, add-zero k, or-false b);
        }
    walk_course (suc a) n l h =
        ⊎_elim
        (λ (f : FinalRecord t n (x.give n)).
        let z = final_kind t n f.zeros in
        record {
          end = n;
          count = 0;
          met = false;
          inside = l;
          path = leads_none;
          marked = refl;
          within = omega arith;
          ended = inr f.none;
          on = λ d k b. walk_ends t m v k b n (suc a + d) z ∙ rw (add-zero k, or-false b) (sym (walk_ends t m v k b n d z));
        })
        (λ (y : AskingRecord May fs t m x.give n).
        let q = y.question in
        let o = way_of (readings v) q in
        let step = y.leads o in
        let rest = walk_course a (way_at t n o) (y.inside o) (rw step (well_step fs o q (x.give n) h)) in
        let going : (p : Leads fs (OfFrame (readings v) May) rest.count (step_by fs o q (x.give n)) (x.give rest.end)) × (met_on v p ≡ rest.met) =
        subst (λ (s : State). (p : Leads fs (OfFrame (readings v) May) rest.count s (x.give rest.end)) × (met_on v p ≡ rest.met)) step (rest.path, rest.marked) in
        record {
          end = rest.end;
          count = suc rest.count;
          met = is_cut (v q.field) || rest.met;
          inside = rest.inside;
          path = leads_more q o (y.may, refl) going.0;
          marked = ap (λ (b : Bool). is_cut (v q.field) || b) going.1;
          within = let w = rest.within in omega arith;
          ended = ⊎_elim (λ (e : rest.count ≡ a). inl (ap suc e)) inr rest.ended;
          on = λ d k b.
              ap (λ (e : ℕ). walk_from t m v e k b n) (suc-add a d)
              ∙ walk_goes t m v k b n (a + d) (undamaged t n q y.words (field_inside n h y)) (not_final t n q y.words)
              (rw (next_of_lem t n q y.words v) (lt-ltb _ _ (y.inside o)))
              ∙ ap₂ (walk_from t m v (a + d) (k + 1)) (ap (λ (c : Bool). b || c) (cut_of_lem t n q y.words v)) (next_of_lem t n q y.words v)
              ∙ rest.on d (k + 1) (b || is_cut (v q.field))
              ∙ ap₂ (λ (c : ℕ) (e : Bool). walk_from t m v d c e rest.end) (omega arith) (or_assoc b (is_cut (v q.field)) rest.met);
        })
        (x.each n l)

    -- So a walk shows the state of its path, which is well formed like the one that it came from.
    module _ (a n : ℕ) (l : n < m) (h : well_state (x.give n) ≡ true) where
      abbrev w : Course a n
      w = walk_course a n l h

      pub end_well : well_state (x.give w.end) ≡ true
      end_well = well_leads (path_free fs (readings v) (path_of fs (readings v) chosen w.path)) h

      pub walk_shows : (k : ℕ) (b : Bool) → walk_from t m v a k b n ≡ shown_at fs (x.give w.end) (k + w.count) (b || w.met)
      walk_shows k b =
          ap (λ (e : ℕ). walk_from t m v e k b n) (sym (add-zero a)) ∙ w.on 0 k b ∙ stopped_shows (k + w.count) (b || w.met) w.end w.inside end_well
