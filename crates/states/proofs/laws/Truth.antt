-- A path tells the truth of its frame: of a filter that is not out, its remaining tests all hold exactly when its own do; an out filter fails, or one that ranks above it fires.
--   holds_in r x       the standing x, read as a test: out fails
--   Says fs r x i     what the standing x says of filter i is true, where field n reads r n
--   Tells fs r s      what the state s says of every filter is true
--   InWidths r        each reading is one of its field's width
use Rattle.std.specs.Prelude.{ℕ, ◌-◌, ◌^◌, ◌≡◌, ◌⊎◌, Bool, ◌&&◌, eqb, length, Option}
use Rattle.std.proofs.Math.Path.{refl, sym, ap, ap₂, subst}
use Rattle.std.proofs.Common.{◌∙◌, inr, arith}
use Rattle.std.proofs.Math.Logic.{inl}
use Rattle.std.proofs.Math.Bool.{true, false, and-false}
use Rattle.std.proofs.lemmas.Bool.{false≢true}
use mathlib.Core.List.{List, [], ◌∷◌, map}
use Rattle.std.proofs.Math.Dec.{ltb}
use Rattle.std.proofs.Math.ListN.{length-map}
use borrow.Author.Tests.{eqb-true, ltb-true, ltb-false}
use Rattle.residue.specs.Tests.{holds_of}
use Rattle.residue.specs.inner.Well.{well_formed, well_known}
use Rattle.residue.specs.inner.Readings.{is_so, remains, in_width}
use Rattle.residue.specs.Residues.{residue_by}
use Rattle.residue.specs.laws.Choice.{by_cond, first, second}
use Rattle.residue.specs.laws.Sound.{residue_sound}
use Rattle.residue.specs.laws.Questions.{outcome_fact_so}
use Rattle.residue.specs.declared.Test.{Test}
use Rattle.residue.specs.declared.Residue.{Residue}
use Rattle.residue.specs.declared.Residue.TheVariants.{True, False, Left}
use Rattle.fields.specs.Widths.{width, full}
use Rattle.lists.specs.inner.Well.{well_item}
use Rattle.lists.specs.Filters.{Item, Filter}
use Rattle.lists.specs.Ranks.{tests_of, above, all_hold, fires}
use Rattle.states.specs.States.{Standing, out, left, State, standing, is_held, keep, join, cut, cut_standing, beaten, closed, all_left, start, step_by}
use Rattle.states.specs.Runs.{way_of}
use Rattle.states.proofs.laws.Standings.{fact_by, divided, step_closes, standing_divided, standing_closed, standing_all, standing_beyond, beaten_where}
use Rattle.states.proofs.laws.Well.{item_on, fact_known, well_left_lem, well_step}
use Rattle.states.specs.inner.Well.{well_state}
use Rattle.states.proofs.laws.Every.{every_standing_lem}
use Rattle.states.specs.inner.Well.{every_item, every_standing}
use Rattle.states.proofs.laws.Choices.{path_keeps}
use Rattle.states.specs.inner.Choices.{Path}

unfoldable pub holds_in : (ℕ → Option ℕ) → Standing → Bool
holds_in r out = false
holds_in r (left ts) = all_hold r ts

abbrev pub Beaten : List Filter → (ℕ → Option ℕ) → ℕ → Type 0
Beaten fs r i = (j : ℕ) × (above fs j i ≡ true) × (fires fs r j ≡ true)

abbrev pub Says : List Filter → (ℕ → Option ℕ) → Standing → ℕ → Type 0
Says fs r out i = (fires fs r i ≡ false) ⊎ Beaten fs r i
Says fs r (left ts) i = fires fs r i ≡ all_hold r ts

abbrev pub Tells : List Filter → (ℕ → Option ℕ) → State → Type 0
Tells fs r s = (i : ℕ) → Says fs r (standing s i) i

abbrev pub InWidths : (ℕ → Option ℕ) → Type 0
InWidths r = (n : ℕ) → in_width (full n) (r n) ≡ true

-- ---- residues

full_power : (n : ℕ) → full n ≡ 2 ^ width n - 1
unfolding full
full_power n = refl

-- Over the width of field n.
divide_sound :
    (n : ℕ) (k : Option Test) (t : Test) (x : Option ℕ) → well_known (full n) k ≡ true → well_formed (full n) t ≡ true → in_width (full n) x ≡ true → is_so k x ≡ true →
    holds_of t x ≡ remains (residue_by (full n) k t) x
divide_sound n k t x = residue_sound (width n) (full n) (full_power n) k t x

-- ---- a held filter fires

held_left : (x : Standing) → is_held x ≡ true → x ≡ left []
unfolding is_held
held_left out e = absurd (false≢true e)
held_left (left []) e = refl
held_left (left (t ∷ ts)) e = absurd (false≢true e)

module _ (fs : List Filter) (r : ℕ → Option ℕ) where
  pub held_fires : (s : State) → Tells fs r s → (i : ℕ) → is_held (standing s i) ≡ true → fires fs r i ≡ true
  unfolding all_hold
  held_fires s t i e = subst (λ (x : Standing). Says fs r x i) (held_left (standing s i) e) (t i)

  -- ---- closing

  tells_closed : (s : State) → Tells fs r s → Tells fs r (closed fs s)
  tells_closed s t i =
      rw (standing_closed fs s i)
      (by_cond (λ (x : Standing). Says fs r x i) (beaten fs s i)
      (λ e. let w = beaten_where fs s i e in inr (w.0, w.2, held_fires s t w.0 w.3))
      (λ _. t i))

  -- ---- the start

  tells_all : Tells fs r (map all_left fs)
  unfolding fires
  tells_all i = go (ltb i (length fs)) refl
    where
      go : (b : Bool) → ltb i (length fs) ≡ b → Says fs r (standing (map all_left fs) i) i
      go true e = rw (standing_all fs i (ltb-true i (length fs) e)) (ap (λ (b : Bool). b && all_hold r (tests_of fs i)) e)
      go false e =
          rw (standing_beyond (map all_left fs) i (omega (arith, length-map fs all_left, ltb-false i (length fs) e)))
          (inl (ap (λ (b : Bool). b && all_hold r (tests_of fs i)) e))

  pub tells_start : Tells fs r (start fs)
  unfolding start
  tells_start = tells_closed (map all_left fs) tells_all

  -- ---- a division

  -- A standing says what it says as a test.
  says_so : (x : Standing) (i : ℕ) → fires fs r i ≡ holds_in r x → Says fs r x i
  unfolding holds_in
  says_so out i e = inl e
  says_so (left ts) i e = e

  keep_holds : (t : Item) (x : Standing) → holds_in r (keep t x) ≡ (holds_of t.test (r t.field) && holds_in r x)
  unfolding keep holds_in all_hold
  keep_holds t out = sym (and-false (holds_of t.test (r t.field)))
  keep_holds t (left ts) = refl

  join_holds : (n : ℕ) (d : Residue) (x : Standing) → holds_in r (join n d x) ≡ (remains d (r n) && holds_in r x)
  unfolding join holds_in remains
  join_holds n True x = refl
  join_holds n False x = refl
  join_holds n (Left u) x = keep_holds (record { field = n; test = u }) x

  module _ (w : InWidths r) where
    cut_holds :
        (n : ℕ) (k : Option Test) (ts : List Item) → well_known (full n) k ≡ true → is_so k (r n) ≡ true → every_item well_item ts ≡ true → holds_in r (cut n k ts) ≡ all_hold r ts
    unfolding cut holds_in all_hold every_item
    cut_holds n k [] g so h = refl
    cut_holds n k (t ∷ ts) g so h =
        let ht = first (well_item t) (every_item well_item ts) h in
        let hs = cut_holds n k ts g so (second (well_item t) (every_item well_item ts) h) in
        by_cond (λ (x : Standing). holds_in r x ≡ (holds_of t.test (r t.field) && all_hold r ts)) (eqb t.field n)
        (λ e.
        join_holds n (residue_by (full n) k t.test) (cut n k ts) ∙
        ap₂ (λ (a b : Bool). a && b)
        (sym (ap (λ (m : ℕ). holds_of t.test (r m)) (eqb-true t.field n e) ∙ divide_sound n k t.test (r n) g (item_on n t e ht) (w n) so))
        hs)
        (λ _. keep_holds t (cut n k ts) ∙ ap (λ (b : Bool). holds_of t.test (r t.field) && b) hs)

    cut_says :
        (n : ℕ) (k : Option Test) (x : Standing) (i : ℕ) → well_known (full n) k ≡ true → is_so k (r n) ≡ true → every_standing well_item x ≡ true → Says fs r x i →
        Says fs r (cut_standing n k x) i
    unfolding cut_standing every_standing
    cut_says n k out i g so h t = t
    cut_says n k (left ts) i g so h t = says_so (cut n k ts) i (t ∙ sym (cut_holds n k ts g so h))

    pub tells_step : (q : Item) (s : State) → well_item q ≡ true → well_state s ≡ true → Tells fs r s → Tells fs r (step_by fs (way_of r q) q s)
    unfolding way_of
    tells_step q s hq h t =
        let o = way_of r q in
        let n = q.field in
        rw (step_closes fs o q s)
        (tells_closed (divided o q s)
        (λ i.
        rw (standing_divided o q s i)
        (cut_says n (fact_by o q) (standing s i) i (fact_known o q hq) (outcome_fact_so (full n) q.test (r n) (w n)) (every_standing_lem well_item s i h) (t i))))

    -- ---- the path of the frame

    -- A well-formed state that tells the truth goes to one.
    pub path_tells : {n : ℕ} {s t : State} → Path fs r n s t → well_state s ≡ true → Tells fs r s → Tells fs r t
    path_tells p h t =
        (path_keeps fs r (λ (x : State). (well_state x ≡ true) × Tells fs r x)
        (λ q x e g. (well_step fs (way_of r q) q x g.0, tells_step q x (well_left_lem x q g.0 e) g.0 g.1)) p (h, t)).1
