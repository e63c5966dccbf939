-- What the code does with words is what the definitions of states say: on the words of a state s of the list fs that fits its slot, each function on words gives the words, or the set, of its counterpart.
-- Encoding: see laws/Fitting and laws/Reading.
-- Sets: held_written, out_written, sure_written. Steps: closed_written, cut_written, by_written, step_written, next_written, start_written, start_accepted.
-- Questions: question_written, asks_written, length_question. Sameness: same_words_eq, same_words_refl, same_written.
use Prim.Native.Nat.{ℕ, zero, suc, ◌+◌, ◌*◌, ◌-◌, ◌^◌, ◌≤◌, ◌<◌}
use Rattle.std.specs.Prelude.{◌≡◌, true, false, ◌&&◌, length, get_or, drop, Option, Ok}
use Rattle.std.proofs.Math.Path.{refl, ap, ap₂}
use Rattle.std.proofs.Common.{sym, ◌∙◌, not-suc-le-zero, le_of_suc-le-suc, arith, get_or-append-add, eqb-true, eq-eqb}
use Rattle.std.proofs.Math.Bool.{Bool, cond, not}
use Rattle.std.proofs.lemmas.Bool.{false≢true}
use mathlib.Core.List.{List, [], ◌∷◌, ◌++◌, map}
use Rattle.std.specs.Int.Bits.{bit_and}
use Rattle.std.proofs.Math.Dec.{eqb}
use Rattle.std.proofs.lemmas.List.{length-map}
use Rattle.std.proofs.Math.ListN.{get_or-append}
use Rattle.residue.specs.laws.Bits.{and_not}
use Rattle.residue.specs.laws.Choice.{both, first, second, same_bool}
use Rattle.residue.specs.Facts.{fact_of}
use Rattle.residue.specs.Residues.{outside}
use Rattle.residue.specs.declared.Outcome.{Outcome}
use Rattle.fields.specs.Widths.{full}
use Rattle.sets.specs.Sets.{set_of, tally, some}
use Rattle.sets.specs.laws.Members.{tally_ext, tally_bound, minus_tally, zero_tally}
use Rattle.lists.specs.Filters.{Item, Filter, max_filters, test_words, item_of, filters_of}
use Rattle.lists.specs.Ranks.{above, rank_sets}
use Rattle.lists.specs.Words.{item_words}
use Rattle.lists.specs.inner.Well.{well_filters}
use Rattle.lists.specs.Refusals.{listed, counts}
use Rattle.lists.specs.laws.Accepted.{accepted_count, accepted_well}
use Rattle.lists.specs.laws.Items.{kind_some, item_round}
use Rattle.lists.specs.laws.Ranking.{get_or_rank_sets, rank_set_in, rank_set_clear}
use Rattle.states.specs.States.{Standing, out, left, State, standing, is_held, is_out, cut_standing, beaten, closed_from, closed, all_left, start, Question, nothing, ask, question_of, step_by, step_at, step, sure, sure_set, out_set}
use Rattle.states.specs.Runs.{asks}
use Rattle.states.specs.Same.{same_state}
use Rattle.states.proofs.laws.Same.{same_state_eq, same_state_refl}
use Rattle.slots.specs.Words.{question_words, filter_slot}
use Rattle.slots.specs.inner.Words.{items_words, out_words, written_filter, written, read_filter}
use Rattle.slots.specs.Asking.{out_mark, has_test, four_words, question_in}
use Rattle.slots.specs.inner.Slots.{head_of, held_set, out_set_in, sure_set_in, closed_in, closed_words, asks_in, cut_words, step_question, step_words, start_words, same_words}
use Rattle.slots.specs.laws.Fitting.{fits_standing, fits_slot, fits_cut, fits_all}
use Rattle.slots.specs.laws.Reading.{length_filter, take_filter, drop_filter, held_word, out_word, kind_mark, read_filter_lem, written_injective}
use Rattle.residue.specs.declared.Test.{Test}

-- ---- sets

pub head_written : (s : State) (i : ℕ) → fits_slot s ≡ true → i < length s → head_of (written s) i ≡ get_or (written_filter (standing s i)) 0 0
unfolding head_of written fits_slot
head_written [] i e h = absurd (not-suc-le-zero h)
head_written (x ∷ s) zero e h =
    let l = length_filter x (first (fits_standing x) (fits_slot s) e) in
    get_or-append (written_filter x) (written s) 0 0 (omega arith)
head_written (x ∷ s) (suc i) e h =
    let l = length_filter x (first (fits_standing x) (fits_slot s) e) in
    let z : filter_slot * suc i ≡ length (written_filter x) + filter_slot * i = omega arith in
    ap (λ (k : ℕ). get_or (written_filter x ++ written s) k 0) z ∙
    get_or-append-add (written_filter x) (written s) (filter_slot * i) 0 ∙
    head_written s i (second (fits_standing x) (fits_slot s) e) (le_of_suc-le-suc h)

-- The members of one set that are not in another.
outside_tally : (k n : ℕ) (p q : ℕ → Bool) → n ≤ k → outside (set_of (tally n p)) (set_of (tally n q)) ≡ set_of (tally n (λ i. p i && not (q i)))
outside_tally k n p q h =
    let a = tally_bound k n p h in
    let b = tally_bound k n q h in
    sym (and_not k (2 ^ k - 1) refl (set_of (tally n p)) (set_of (tally n q)) (omega arith) (omega arith)) ∙ minus_tally k n p q h

stays_out : (b : Bool) (x : Standing) → cond (not b) (written_filter x) out_words ≡ written_filter (cond b out x)
unfolding written_filter
stays_out true x = refl
stays_out false x = refl

module _ (fs : List Filter) (s : State) (l : length s ≡ length fs) (few : length fs ≤ max_filters) (fit : fits_slot s ≡ true) where
  held_at : (i : ℕ) → i < length fs → eqb (head_of (written s) i) 0 ≡ is_held (standing s i)
  held_at i h = ap (λ (k : ℕ). eqb k 0) (head_written s i fit (omega arith)) ∙ held_word (standing s i)

  out_at_lem : (i : ℕ) → i < length fs → eqb (head_of (written s) i) out_mark ≡ is_out (standing s i)
  out_at_lem i h = ap (λ (k : ℕ). eqb k out_mark) (head_written s i fit (omega arith)) ∙ out_word (standing s i)

  pub held_written : held_set (length fs) (written s) ≡ set_of (tally (length fs) (λ i. is_held (standing s i)))
  unfolding held_set
  held_written = ap set_of (tally_ext (length fs) _ (λ i. is_held (standing s i)) held_at)

  pub out_written : out_set_in (length fs) (written s) ≡ out_set fs s
  unfolding out_set_in out_set
  out_written = ap set_of (tally_ext (length fs) _ (λ i. is_out (standing s i)) out_at_lem)

  -- No filter that ranks above i is open or held.
  none_above : (i : ℕ) → i < length fs → eqb (outside (get_or (rank_sets fs) i 0) (out_set_in (length fs) (written s))) 0 ≡ not (some (length fs) (λ j. above fs j i && not (is_out (standing s j))))
  unfolding out_set
  none_above i h =
      let p : ℕ → Bool = λ j. above fs j i in
      let q : ℕ → Bool = λ j. is_out (standing s j) in
      ap₂ (λ (a b : ℕ). eqb (outside a b) 0) (get_or_rank_sets fs i (omega arith) ∙ rank_set_in fs i h) out_written ∙
      ap (λ (x : ℕ). eqb x 0) (outside_tally max_filters (length fs) p q few) ∙
      zero_tally (length fs) (λ j. p j && not (q j))

  pub sure_written : sure_set_in (length fs) (rank_sets fs) (written s) ≡ sure_set fs s
  unfolding sure_set_in sure_set sure
  sure_written =
      ap set_of (tally_ext (length fs) _ (λ i. sure fs s i) (λ i h. ap₂ (λ (a b : Bool). a && b) (held_at i h) (none_above i h)))

  -- ---- closing

  not_beaten : (i : ℕ) → i < length fs → eqb (bit_and (get_or (rank_sets fs) i 0) (held_set (length fs) (written s))) 0 ≡ not (beaten fs s i)
  unfolding beaten
  not_beaten i h =
      ap₂ (λ (a b : ℕ). eqb (bit_and a b) 0) (get_or_rank_sets fs i (omega arith)) held_written ∙ rank_set_clear fs (λ j. is_held (standing s j)) i h

  closed_from_lem : (i : ℕ) (xs : State) → i + length xs ≡ length fs → fits_slot xs ≡ true → closed_in (length xs) (rank_sets fs) (held_set (length fs) (written s)) i (written xs) ≡ written (closed_from fs s i xs)
  unfolding closed_in written closed_from fits_slot
  closed_from_lem i [] h e = refl
  closed_from_lem i (x ∷ xs) h e =
      let f = first (fits_standing x) (fits_slot xs) e in
      let held = held_set (length fs) (written s) in
      ap₂ (λ (a b : List ℕ). a ++ b)
      (ap₂ (λ (b : Bool) (w : List ℕ). cond b w out_words) (not_beaten i (omega arith)) (take_filter x xs f) ∙ stays_out (beaten fs s i) x)
      (ap (closed_in (length xs) (rank_sets fs) held (i + 1)) (drop_filter x xs f) ∙ closed_from_lem (i + 1) xs (omega arith) (second (fits_standing x) (fits_slot xs) e))

  pub closed_written : closed_words (length fs) (rank_sets fs) (written s) ≡ written (closed fs s)
  unfolding closed_words closed
  closed_written = ap (λ (m : ℕ). closed_in m (rank_sets fs) (held_set (length fs) (written s)) 0 (written s)) (sym l) ∙ closed_from_lem 0 s (omega arith) fit

-- ---- questions

question_from : (s : State) → fits_slot s ≡ true → question_in (length s) (written s) ≡ question_words (question_of s)
unfolding question_in question_words question_of written fits_slot has_test four_words written_filter out_words items_words item_words
question_from [] e = refl
question_from (out ∷ s) e = ap (question_in (length s)) (drop_filter out s (first (fits_standing out) (fits_slot s) e)) ∙ question_from s (second (fits_standing out) (fits_slot s) e)
question_from (left [] ∷ s) e = ap (question_in (length s)) (drop_filter (left []) s (first (fits_standing (left [])) (fits_slot s) e)) ∙ question_from s (second (fits_standing (left [])) (fits_slot s) e)
question_from (left (t ∷ ts) ∷ s) e = rw (kind_some t.test, kind_mark t.test)

asks_words : (a : Question) → not (eqb (get_or (question_words a) 0 0) 0) ≡ asks a
unfolding question_words item_words asks
asks_words nothing = refl
asks_words (ask q) = ap not (kind_some q.test)

cut_from : (f : ℕ) (k : Option Test) (s : State) → fits_slot s ≡ true → cut_words (length s) f k (written s) ≡ written (map (cut_standing f k) s)
unfolding cut_words written fits_slot
cut_from f k [] e = refl
cut_from f k (x ∷ s) e =
    let g = first (fits_standing x) (fits_slot s) e in
    ap₂ (λ (a b : List ℕ). a ++ b)
    (ap (λ (w : List ℕ). written_filter (cut_standing f k (read_filter w))) (take_filter x s g) ∙ ap (λ (y : Standing). written_filter (cut_standing f k y)) (read_filter_lem x g))
    (ap (cut_words (length s) f k) (drop_filter x s g) ∙ cut_from f k s (second (fits_standing x) (fits_slot s) e))

module _ (m : ℕ) (s : State) (l : length s ≡ m) (fit : fits_slot s ≡ true) where
  pub question_written : question_in m (written s) ≡ question_words (question_of s)
  question_written = ap (λ (k : ℕ). question_in k (written s)) (sym l) ∙ question_from s fit

  pub ask_written : (q : Item) → question_of s ≡ ask q → question_in m (written s) ≡ item_words q
  unfolding question_words
  ask_written q e = question_written ∙ ap question_words e

  pub asks_written : asks_in m (written s) ≡ asks (question_of s)
  unfolding asks_in
  asks_written = ap (λ (w : List ℕ). not (eqb (get_or w 0 0) 0)) question_written ∙ asks_words (question_of s)

  pub cut_written : (f : ℕ) (k : Option Test) → cut_words m f k (written s) ≡ written (map (cut_standing f k) s)
  cut_written f k = ap (λ (x : ℕ). cut_words x f k (written s)) (sym l) ∙ cut_from f k s fit

-- ---- a step, the start

module _ (fs : List Filter) (s : State) (l : length s ≡ length fs) (few : length fs ≤ max_filters) (fit : fits_slot s ≡ true) where
  -- By any question.
  pub by_written : (o : Outcome) (q : Item) → step_question (length fs) (rank_sets fs) o q (written s) ≡ written (step_by fs o q s)
  unfolding step_question step_by
  by_written o q =
      let f = q.field in
      let k = fact_of (full q.field) o q.test in
      ap (closed_words (length fs) (rank_sets fs)) (cut_written (length fs) s l fit f k) ∙
      closed_written fs (map (cut_standing f k) s) (length-map s (cut_standing f k) ∙ l) few (fits_cut f k s fit)

  pub step_written : (o : Outcome) (q : Item) → question_of s ≡ ask q → step_words (length fs) (rank_sets fs) o (written s) ≡ written (step_by fs o q s)
  unfolding step_words
  step_written o q e =
      ap (λ (t : Item). step_question (length fs) (rank_sets fs) o t (written s)) (ap item_of (ask_written (length fs) s l fit q e) ∙ item_round q) ∙ by_written o q

  next_at_lem : (o : Outcome) (a : Question) → question_of s ≡ a → asks a ≡ true → step_words (length fs) (rank_sets fs) o (written s) ≡ written (step_at fs o a s)
  unfolding step_at asks
  next_at_lem o nothing e h = absurd (false≢true h)
  next_at_lem o (ask q) e h = step_written o q e

  pub next_written : (o : Outcome) → asks (question_of s) ≡ true → step_words (length fs) (rank_sets fs) o (written s) ≡ written (step fs o s)
  unfolding step
  next_written o h = next_at_lem o (question_of s) refl h

-- A question has the words of a test, whatever the words of the slot are.
four_of : (b : Bool) (x y : List ℕ) → length x ≡ 4 → length y ≡ 4 → length (cond b x y) ≡ 4
four_of true x y h k = h
four_of false x y h k = k

pub length_question : (m : ℕ) (w : List ℕ) → length (question_in m w) ≡ test_words
unfolding question_in four_words
length_question zero w = refl
length_question (suc m) w = four_of (has_test w) (four_words w) (question_in m (drop filter_slot w)) refl (length_question m (drop filter_slot w))

pub start_written : (ws : List ℕ) → length (filters_of ws) ≤ max_filters → well_filters (filters_of ws) ≡ true → start_words (length (filters_of ws)) (rank_sets (filters_of ws)) ws ≡ written (start (filters_of ws))
unfolding start_words start
start_written ws few well =
    closed_written (filters_of ws) (map all_left (filters_of ws)) (length-map (filters_of ws) all_left) few (fits_all (filters_of ws) well)

pub start_accepted : (ws : List ℕ) (m t : ℕ) → listed ws ≡ Ok (counts m t) → start_words m (rank_sets (filters_of ws)) ws ≡ written (start (filters_of ws))
start_accepted ws m t e =
    let c = accepted_count ws m t e in
    ap (λ (k : ℕ). start_words k (rank_sets (filters_of ws)) ws) (sym c.0) ∙ start_written ws (omega arith) (accepted_well ws m t e)

-- ---- sameness

pub same_words_eq : (a b : List ℕ) → same_words a b ≡ true → a ≡ b
unfolding same_words
same_words_eq [] [] e = refl
same_words_eq [] (y ∷ ys) e = absurd (false≢true e)
same_words_eq (x ∷ xs) [] e = absurd (false≢true e)
same_words_eq (x ∷ xs) (y ∷ ys) e =
    ap₂ (λ (a : ℕ) (as' : List ℕ). a ∷ as') (eqb-true x y (first (eqb x y) (same_words xs ys) e)) (same_words_eq xs ys (second (eqb x y) (same_words xs ys) e))

pub same_words_refl : (a : List ℕ) → same_words a a ≡ true
unfolding same_words
same_words_refl [] = refl
same_words_refl (x ∷ xs) = both (eqb x x) (same_words xs xs) (eq-eqb x x refl) (same_words_refl xs)

-- Equal words, equal states.
pub same_written : (a b : State) → length a ≡ length b → fits_slot a ≡ true → fits_slot b ≡ true → same_words (written a) (written b) ≡ same_state a b
same_written a b l f g =
    same_bool (same_words (written a) (written b)) (same_state a b)
    (λ e. ap (same_state a) (sym (written_injective a b l f g (same_words_eq (written a) (written b) e))) ∙ same_state_refl a)
    (λ e. ap (λ (x : State). same_words (written a) (written x)) (sym (same_state_eq a b e)) ∙ same_words_refl (written a))
