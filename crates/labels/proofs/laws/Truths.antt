-- Demands 2 and 3 over a labelled table, with its own questions in place of document 01's: what a walk shows is what a path of the frame tells.
--   Shows May fs v a w   the answer w, with a questions allowed, is that of the state that a path of the frame leads to, by questions that May allows
use Prim.Native.Nat.{ℕ, zero, suc, ◌+◌, ◌-◌, ◌≤◌, ◌<◌}
use Rattle.std.proofs.Common.{arith, zero-add, not-suc-le-zero, le_of_suc-le-suc, sym, ◌∙◌, subst, ⊎_elim}
use Rattle.std.proofs.Math.Nat.{suc_inj}
use Rattle.std.specs.Prelude.{◌≡◌, ◌⊎◌, Bool, true, false, not, ◌&&◌, ◌||◌, List, ltb, Option}
use Rattle.std.proofs.Math.Path.{refl, ap, fun_ext}
use Rattle.std.proofs.Math.Logic.{inl, inr}
use Rattle.std.proofs.lemmas.Bool.{false≢true}
use Rattle.std.proofs.Math.ListN.{length}
use borrow.Author.Tests.{lt-ltb, le-ltb, ne_eqb}
use Rattle.residue.specs.laws.Choice.{both, first, second}
use Rattle.residue.specs.declared.Outcome.{Outcome}
use Rattle.fields.specs.Seen.{is_cut, seen}
use Rattle.fields.specs.declared.Seen.{Seen}
use Rattle.fields.proofs.laws.Cut.{seen_reading}
use Rattle.fields.specs.Ethernet.{max_frame}
use Rattle.fields.specs.Fields.{field}
use Rattle.fields.proofs.laws.Values.{value_in_width}
use Rattle.sets.specs.Sets.{set_of, member}
use Rattle.sets.specs.laws.Members.{tally_ext}
use Rattle.lists.specs.inner.Well.{well_filters}
use Rattle.lists.specs.Filters.{Item, Filter, tests_in}
use Rattle.lists.specs.Ranks.{fires, matches, match_set}
use Rattle.states.specs.States.{State, start, Question, nothing, ask, question_of, step_by, standing, is_out, sure, is_open, sure_set, out_set}
use Rattle.states.specs.Runs.{advance, run, asked_in}
use Rattle.states.proofs.laws.Choices.{path_of, path_free}
use Rattle.states.specs.inner.Choices.{Leads, leads_none, leads_more, Chosen, Picked, OfFrame, Free}
use Rattle.states.proofs.laws.Keeps.{advance_ask, picks_run}
use Rattle.states.proofs.laws.Well.{well_start}
use Rattle.states.specs.inner.Well.{well_state}
use Rattle.states.proofs.laws.Truth.{InWidths}
use Rattle.states.proofs.laws.Stays.{leads_sure, leads_out}
use Rattle.states.proofs.laws.Paths.{member_sure, member_out, PathTruth, path_truth}
use Rattle.tables.specs.Tables.{slots_of}
use Rattle.matcher.specs.declared.Found.{Found}
use Rattle.matcher.specs.Walk.{Answer, found, is_done, walk_from, walk}
use Rattle.labels.specs.Labels.{ended_by, shown_at, readings, met_at, met_in, Legal}
use Rattle.labels.specs.inner.Labelled.{met_on, LabelledBy}
use Rattle.labels.proofs.laws.Courses.{Course, walk_course, end_well, walk_shows}

-- ---- what is shown of a state

module _ (fs : List Filter) (s : State) (k : ℕ) (b : Bool) where
  shown_found : found (shown_at fs s k b) ≡ record { sure = sure_set fs s; out = out_set fs s; asked = k; cut = b }
  unfolding shown_at ended_by
  shown_found = go (question_of s) _
    where
      go : (a : Question) (x : Found) → found (ended_by a x) ≡ x
      go nothing x = refl
      go (ask q) x = refl

  pub done_shown : question_of s ≡ nothing → is_done (shown_at fs s k b) ≡ true
  unfolding shown_at ended_by
  done_shown e = rw e

  pub sure_member : (i : ℕ) → member i (found (shown_at fs s k b)).sure ≡ (ltb i (length fs) && sure fs s i)
  sure_member i = rw shown_found (member_sure fs s i)

  pub out_member : (i : ℕ) → member i (found (shown_at fs s k b)).out ≡ (ltb i (length fs) && is_out (standing s i))
  out_member i = rw shown_found (member_out fs s i)

  pub asked_shown : (found (shown_at fs s k b)).asked ≡ k
  asked_shown = rw shown_found

  -- In neither set is open.
  pub open_member : (i : ℕ) → i < length fs → (not (member i (found (shown_at fs s k b)).sure) && not (member i (found (shown_at fs s k b)).out)) ≡ is_open fs s i
  unfolding is_open
  open_member i inside = rw (sure_member i, out_member i, lt-ltb i (length fs) inside)

-- A path takes back nothing of what is shown.
module _ (fs : List Filter) {j : ℕ} {s s' : State} (p : Leads fs Free j s s') (k k' : ℕ) (b b' : Bool) (i : ℕ) where
  abbrev here : Bool
  here = ltb i (length fs)

  shown_keeps :
      (member i (found (shown_at fs s k b)).sure ≡ true → member i (found (shown_at fs s' k' b')).sure ≡ true) × (member i (found (shown_at fs s k b)).out ≡ true → member i (found (shown_at fs s' k' b')).out ≡ true)
  shown_keeps =
      rw (sure_member fs s k b i, sure_member fs s' k' b' i, out_member fs s k b i, out_member fs s' k' b' i)
      (λ e. both here _ (first here _ e) (leads_sure fs p i (second here _ e)), λ e. both here _ (first here _ e) (leads_out fs p i (second here _ e)))

matches_within : (fs : List Filter) (r : ℕ → Option ℕ) (i : ℕ) → (ltb i (length fs) && matches fs r i) ≡ matches fs r i
unfolding matches fires
matches_within fs r i = go (ltb i (length fs)) _ _
  where
    go : (b c d : Bool) → (b && (b && c && d)) ≡ (b && c && d)
    go true c d = refl
    go false c d = refl

-- ---- what the state of a path shows

pub record Shows (May : Item → State → Type 0) (fs : List Filter) (v : ℕ → Seen) (a : ℕ) (w : Answer) : Type 0 where
  pub state : State
  pub count : ℕ
  pub met : Bool
  pub path : Leads fs (OfFrame (readings v) May) count (start fs) state
  pub marked : met_on v path ≡ met
  pub within : count ≤ a
  pub ended : (count ≡ a) ⊎ (question_of state ≡ nothing)
  pub shown : w ≡ shown_at fs state count met

-- The mark of a path by document 01's questions is that of its run.
module _ (fs : List Filter) (v : ℕ → Seen) where
  met_none : (n : ℕ) (s : State) → question_of s ≡ nothing → met_in fs v n s ≡ false
  unfolding met_in met_at
  met_none zero s e = refl
  met_none (suc n) s e = ap (λ (a : Question). met_at v a (met_in fs v n (advance fs (readings v) s))) e

  met_ask : (n : ℕ) (q : Item) (s : State) → question_of s ≡ ask q → met_in fs v (suc n) s ≡ (is_cut (v q.field) || met_in fs v n (advance fs (readings v) s))
  unfolding met_in met_at
  met_ask n q s e = ap (λ (a : Question). met_at v a (met_in fs v n (advance fs (readings v) s))) e

  picks_met :
      (n : ℕ) {k : ℕ} {s t : State} (p : Leads fs (OfFrame (readings v) Picked) k s t) → k ≤ n → (k ≡ n) ⊎ (question_of t ≡ nothing) → met_in fs v n s ≡ met_on v p
  unfolding met_in met_on
  picks_met n {s = s} leads_none l (inl e) = rw (← e)
  picks_met n {s = s} leads_none l (inr e) = met_none n s e
  picks_met zero (leads_more q o a p) l e = absurd (not-suc-le-zero l)
  picks_met (suc n) (leads_more {n = k} {s = s} {t = t} q o a p) l e =
      let next : advance fs (readings v) s ≡ step_by fs o q s =
      advance_ask fs (readings v) q s a.0 ∙ ap (λ (x : Outcome). step_by fs x q s) (sym a.1) in
      let rest = picks_met n p (le_of_suc-le-suc l) (⊎_elim (λ (z : suc k ≡ suc n). inl (suc_inj z)) (λ (z : question_of t ≡ nothing). inr z) e) in
      met_ask n q s a.0 ∙ ap (λ (b : Bool). is_cut (v q.field) || b) (ap (met_in fs v n) next ∙ rest)

-- Where document 01's questions are asked it is the state of document 01's path.
pub picked_run :
    {fs : List Filter} {v : ℕ → Seen} {a : ℕ} {w : Answer} → Shows Picked fs v a w →
    w ≡ shown_at fs (run fs (readings v) a (start fs)) (asked_in fs (readings v) a (start fs)) (met_in fs v a (start fs))
picked_run {fs} {v} {a} x =
    let e = picks_run fs (readings v) a x.path x.within x.ended in
    rw (e.0, e.1, picks_met fs v a x.path x.within x.ended, x.marked) x.shown

module _ {May : Item → State → Type 0} (chosen : (q : Item) (s : State) → May q s → Chosen q s) {fs : List Filter} (well : well_filters fs ≡ true) {v : ℕ → Seen}
    (widths : InWidths (readings v)) {a : ℕ} {w : Answer} (x : Shows May fs v a w) where
  abbrev r : ℕ → Option ℕ
  r = readings v

  truth : PathTruth fs r x.count x.state
  truth = path_truth fs r well widths (path_of fs r chosen x.path)

  sures : (i : ℕ) → member i (found w).sure ≡ (ltb i (length fs) && sure fs x.state i)
  sures i = rw x.shown (sure_member fs x.state x.count x.met i)

  outs : (i : ℕ) → member i (found w).out ≡ (ltb i (length fs) && is_out (standing x.state i))
  outs i = rw x.shown (out_member fs x.state x.count x.met i)

  -- Nothing is left to ask once as much is allowed as the list has tests.
  final : tests_in fs ≤ a → question_of x.state ≡ nothing
  final enough = ⊎_elim (λ (e : x.count ≡ a). truth.ended (omega arith)) (λ e. e) x.ended

  -- Then the walk is done, the sure filters are the match set, and each filter of the list is sure or out.
  pub shows_done : tests_in fs ≤ a → is_done w ≡ true
  shows_done enough = rw x.shown (done_shown fs x.state x.count x.met (final enough))

  pub shows_matches : tests_in fs ≤ a → (i : ℕ) → member i (found w).sure ≡ matches fs r i
  shows_matches enough i = sures i ∙ ap (λ (b : Bool). ltb i (length fs) && b) (truth.settled (final enough) i) ∙ matches_within fs r i

  pub shows_set : tests_in fs ≤ a → (found w).sure ≡ match_set fs r
  unfolding match_set sure_set
  shows_set enough =
      rw x.shown
      (ap (λ (y : Found). y.sure) (shown_found fs x.state x.count x.met) ∙
      ap set_of (tally_ext (length fs) (λ i. sure fs x.state i) (λ i. matches fs r i) (λ i _. truth.settled (final enough) i)))

  pub shows_settled : tests_in fs ≤ a → (i : ℕ) → i < length fs → (member i (found w).sure ≡ true) ⊎ (member i (found w).out ≡ true)
  shows_settled enough i inside =
      go (member i (found w).sure) (member i (found w).out) refl refl (rw x.shown (open_member fs x.state x.count x.met i inside ∙ truth.none_open (final enough) i))
    where
      go : (b c : Bool) → member i (found w).sure ≡ b → member i (found w).out ≡ c → (not b && not c) ≡ false → (member i (found w).sure ≡ true) ⊎ (member i (found w).out ≡ true)
      go true c e z n = inl e
      go false true e z n = inr z
      go false false e z n = absurd (false≢true (sym n))

  -- Whatever is allowed, a sure filter is in the match set and an out one is not, and no more is asked than allowed, nor than the list has tests.
  pub shows_sure : (i : ℕ) → member i (found w).sure ≡ true → matches fs r i ≡ true
  shows_sure i e = truth.sure_true i (second (ltb i (length fs)) _ (sym (sures i) ∙ e))

  pub shows_out : (i : ℕ) → member i (found w).out ≡ true → matches fs r i ≡ false
  shows_out i e = truth.out_true i (second (ltb i (length fs)) _ (sym (outs i) ∙ e))

  pub shows_asked : ((found w).asked ≤ a) × ((found w).asked ≤ tests_in fs)
  shows_asked =
      let count : (found w).asked ≡ x.count = rw x.shown (asked_shown fs x.state x.count x.met) in
      let within = x.within in
      (omega arith, omega (arith, truth.few))

-- ---- a walk over a labelled table

pub seen_field : (f : List ℕ) (p : ℕ) → readings (seen f p) ≡ field f p
seen_field f p = fun_ext (λ (n : ℕ). seen_reading f p n)

pub legal_widths : (f : List ℕ) (p : ℕ) → Legal f p → InWidths (readings (seen f p))
legal_widths f p legal n = rw (seen_reading f p n) (value_in_width f p legal.bytes legal.port n)

module _ {May : Item → State → Type 0} (chosen : (q : Item) (s : State) → May q s → Chosen q s) {fs : List Filter} (well : well_filters fs ≡ true) {t : List ℕ} {m : ℕ}
    (x : LabelledBy May fs t m) (f : List ℕ) (p : ℕ) (legal : Legal f p) where
  abbrev v : ℕ → Seen
  v = seen f p

  starts : (a : ℕ) → walk f p t m a ≡ walk_from t m v a 0 false 0
  unfolding walk
  starts a =
      let some = x.some in
      let short : length f ≤ max_frame = omega (arith, legal.short) in
      rw (le-ltb max_frame (length f) short, ne_eqb m 0 (λ (z : m ≡ 0). omega arith), le-ltb (slots_of t) m x.fits)

  first_well : well_state (x.give 0) ≡ true
  first_well = rw x.first (well_start fs well)

  abbrev walks : (a : ℕ) → Course x v a 0
  walks a = walk_course x v chosen a 0 x.some first_well

  -- It shows the state of a path, to which it has come by as many questions as are allowed, or which is final.
  pub labelled_shows : (a : ℕ) → Shows May fs v a (walk f p t m a)
  labelled_shows a =
      let w = walks a in
      let going : (p : Leads fs (OfFrame (readings v) May) w.count (start fs) (x.give w.end)) × (met_on v p ≡ w.met) =
      subst (λ (s : State). (p : Leads fs (OfFrame (readings v) May) w.count s (x.give w.end)) × (met_on v p ≡ w.met)) x.first (w.path, w.marked) in
      record {
        state = x.give w.end;
        count = w.count;
        met = w.met;
        path = going.0;
        marked = going.1;
        within = w.within;
        ended = w.ended;
        shown = starts a ∙ walk_shows x v chosen a 0 x.some first_well 0 false ∙ ap (λ (k : ℕ). shown_at fs (x.give w.end) k w.met) (zero-add w.count);
      }

  -- With more allowed the walk goes on from there, so it takes nothing back.
  module _ (a d : ℕ) where
    abbrev after : Course x v d (walks a).end
    after = walk_course x v chosen d (walks a).end (walks a).inside (end_well x v chosen a 0 x.some first_well)

    after_shows : walk f p t m (a + d) ≡ shown_at fs (x.give after.end) (0 + (walks a).count + after.count) ((walks a).met || after.met)
    after_shows =
        starts (a + d) ∙ (walks a).on d 0 false ∙ walk_shows x v chosen d (walks a).end (walks a).inside (end_well x v chosen a 0 x.some first_well) (0 + (walks a).count) (walks a).met

    after_led : Leads fs Free after.count (labelled_shows a).state (x.give after.end)
    unfolding labelled_shows
    after_led = path_free fs (readings v) (path_of fs (readings v) chosen after.path)

    after_keeps :
        (i : ℕ) → (member i (found (walk f p t m a)).sure ≡ true → member i (found (walk f p t m (a + d))).sure ≡ true) ×
        (member i (found (walk f p t m a)).out ≡ true → member i (found (walk f p t m (a + d))).out ≡ true)
    after_keeps i = rw ((labelled_shows a).shown, after_shows) (shown_keeps fs after_led (labelled_shows a).count (0 + (walks a).count + after.count) (labelled_shows a).met ((walks a).met || after.met) i)

  pub labelled_keeps :
      (a a' i : ℕ) → a ≤ a' →
      (member i (found (walk f p t m a)).sure ≡ true → member i (found (walk f p t m a')).sure ≡ true) × (member i (found (walk f p t m a)).out ≡ true → member i (found (walk f p t m a')).out ≡ true)
  labelled_keeps a a' i more =
      let e : a + (a' - a) ≡ a' = omega arith in
      rw (← e) (after_keeps a (a' - a) i)
