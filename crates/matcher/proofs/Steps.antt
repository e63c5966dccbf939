-- One turn of the walk: what each way out of a record says of the walk from record 0. The record's words are w, as the code has them.
--   word_is                word j of record n
--   Walking t m v a l b n  record n was reached with l questions left of a and the mark b, and the walk from there answers the whole walk
--   Asking t m v a l b n   besides, record n is a question that may be asked, and leaves one question fewer
--   Checked m next r       r is the number of the next record, or the refusal of a table that has none of it
use Prim.Native.Nat.{ℕ, zero, suc, ◌+◌, ◌-◌, ◌*◌, ◌%◌, ◌^◌, ◌≤◌, ◌<◌}
use native.Mathlib.Nat.{pos_of_ne-zero, one-mul}
use native.Mathlib.Omega.{arith}
use mathlib.Core.Path.{◌≡◌, refl, sym, ap, ◌∙◌}
use mathlib.Core.Bool.{Bool, true, false, cond, not, ◌&&◌, ◌||◌, or-true, or-false, false≢true}
use mathlib.Core.List.{List}
use borrow.Author.Tests.{lt-ltb, ltb-true, ltb-false, eqb-true, eqb-false}
use lib.Bits.{bit_or}
use lib.Dec.{ltb, eqb, lit<}
use lib.ListN.{drop}
use lib.Pow.{shl_exact}
use lib.Seq.{get_or-take, get_or-drop}
use Rattle.std.specs.Prelude.{None, Some, Result, Ok, Err}
use Rattle.std.proofs.Common.{subst}
use Rattle.refusals.specs.declared.Refusal.{Refusal}
use Rattle.refusals.specs.declared.Refusal.TheVariants.{Table}
use Rattle.residue.specs.Tests.{holds}
use Rattle.residue.specs.laws.Choice.{by_test}
use Rattle.sets.specs.Sets.{member, set_of, tally}
use Rattle.sets.specs.laws.Members.{member_tally}
use Rattle.fields.specs.Widths.{field_count}
use Rattle.fields.specs.Seen.{is_cut, reading_of, seen}
use Rattle.fields.specs.inner.Sight.{cut_set}
use Rattle.fields.specs.declared.Seen.{Seen}
use Rattle.fields.proofs.laws.CutSet.{value_uncut}
use Rattle.lists.specs.Filters.{kind_at_least, test_of, kind_at, field_at, mask_at, value_at}
use Rattle.tables.specs.Tables.{record_words, holds_at, fails_at, absent_at, sure_at, out_at, word_of, sure_set_at, out_set_at}
use Rattle.tables.specs.inner.Records.{record_at}
use Rattle.tables.proofs.laws.Layout.{set_read}
use Rattle.matcher.specs.Walk.{Answer, found_at, damaged, next_by, next_of, cut_of, arrive, onward, walk_from}
use Rattle.matcher.specs.inner.Records.{word_in, last_field, ends_at, found_in, end_at, meets}
use Rattle.matcher.proofs.Meeting.{meets_more}

pub word_is : (t : List ℕ) (n : ℕ) {w : List ℕ} → w ≡ record_at t n → (j : ℕ) → j < record_words → word_in w j ≡ word_of t n j
unfolding word_of record_at
word_is t n is j h =
    ap (λ l. word_in l j) is ∙ get_or-take record_words (drop (record_words * n) t) j 0 h ∙ get_or-drop (record_words * n) t j 0

pub record Walking (t : List ℕ) (m : ℕ) (v : ℕ → Seen) (a l : ℕ) (b : Bool) (n : ℕ) : Type 0 where
  pub inside : n < m
  pub within : l ≤ a
  pub rest : walk_from t m v l (a - l) b n ≡ walk_from t m v a 0 false 0

-- The tests of a record's words, put together: z final, h a kind above 4, g a field above the last, l the allowance used.
covered : (z h g : Bool) → (z || h || g) ≡ true → (h || (not z && g) || z) ≡ true
covered true h g e = or-true (h || false)
covered false true g e = refl
covered false false true e = refl
covered false false false e = e

clear :
    (z h g l : Bool) →
    (z || h || g || l) ≡ false →
    (z ≡ false) × ((h || (not z && g)) ≡ false) × (g ≡ false) × (l ≡ false)
clear true h g l e = absurd (false≢true (sym e))
clear false true g l e = absurd (false≢true (sym e))
clear false false true l e = absurd (false≢true (sym e))
clear false false false true e = absurd (false≢true (sym e))
clear false false false false e = (refl, refl, refl, refl)

-- Where a record ends the walk, what would come after it does not matter.
settles : (d f : Bool) → (d || f) ≡ true → (end on on' : Answer) → arrive d f end on ≡ arrive d f end on'
unfolding arrive
settles true f e end on on' = refl
settles false true e end on on' = refl
settles false false e end on on' = absurd (false≢true e)

module _ (t : List ℕ) (m : ℕ) (v : ℕ → Seen) (k : ℕ) (b : Bool) (n : ℕ) where
  -- No question left: what the record shows by itself.
  at_end : {w : List ℕ} → w ≡ record_at t n → end_at w k b ≡ walk_from t m v 0 k b n
  unfolding end_at found_in walk_from found_at sure_set_at out_set_at damaged
  at_end {w} is =
      rw (
        word_is t n is kind_at (omega arith),
        word_is t n is field_at (omega arith),
        set_read (word_in w) (word_of t n) sure_at record_words (word_is t n is) (omega arith),
        set_read (word_in w) (word_of t n) out_at record_words (word_is t n is) (omega arith),
      )

  at_rest :
      (d : ℕ) →
      (damaged t n || eqb (word_of t n kind_at) 0) ≡ true →
      walk_from t m v 0 k b n ≡ walk_from t m v d k b n
  unfolding walk_from
  at_rest zero e = refl
  at_rest (suc d) e = settles (damaged t n) (eqb (word_of t n kind_at) 0) e _ _ _

-- One question more is asked, one fewer is left.
pub at_question :
    (t : List ℕ) (m : ℕ) (v : ℕ → Seen) (b : Bool) (n a l : ℕ) →
    l < a →
    damaged t n ≡ false →
    eqb (word_of t n kind_at) 0 ≡ false →
    walk_from t m v (suc l) (a - suc l) b n ≡ onward (ltb (next_of t v n) m) (walk_from t m v l (a - l) (b || cut_of t v n) (next_of t v n))
unfolding walk_from arrive
at_question t m v b n a l h e f =
    let asked : a - suc l + 1 ≡ a - l = omega arith in
    rw (e, f, asked)

-- The code's test of a record, in the table's words.
ends_words :
    (t : List ℕ) (n : ℕ) {w : List ℕ} →
    w ≡ record_at t n →
    (l : ℕ) →
    ends_at w l ≡
    (eqb (word_of t n kind_at) 0 || ltb kind_at_least (word_of t n kind_at) || ltb last_field (word_of t n field_at) || eqb l 0)
unfolding ends_at
ends_words t n is l = rw (word_is t n is kind_at (omega arith), word_is t n is field_at (omega arith))

module _ {t : List ℕ} {m : ℕ} {v : ℕ → Seen} {a l : ℕ} {b : Bool} {n : ℕ} (w : Walking t m v a l b n) where
  ended_by :
      (used : Bool) →
      eqb l 0 ≡ used →
      (eqb (word_of t n kind_at) 0 || ltb kind_at_least (word_of t n kind_at) || ltb last_field (word_of t n field_at) || used) ≡ true →
      walk_from t m v 0 (a - l) b n ≡ walk_from t m v l (a - l) b n
  unfolding damaged
  ended_by true h e = rw (eqb-true l 0 h)
  ended_by false h e =
      at_rest t m v (a - l) b n l
      (covered (eqb (word_of t n kind_at) 0) (ltb kind_at_least (word_of t n kind_at)) (ltb last_field (word_of t n field_at))
      (sym (or-false _) ∙ e))

  -- The walk that goes no further shows what the record shows.
  pub ended : {ws : List ℕ} → ws ≡ record_at t n → ends_at ws l ≡ true → end_at ws (a - l) b ≡ walk_from t m v a 0 false 0
  ended is e = at_end t m v (a - l) b n is ∙ ended_by (eqb l 0) refl (sym (ends_words t n is l) ∙ e) ∙ w.rest

pub record Asking (t : List ℕ) (m : ℕ) (v : ℕ → Seen) (a l : ℕ) (b : Bool) (n : ℕ) : Type 0 where
  pub some : 0 < l
  pub within : l ≤ a
  pub known : word_of t n field_at < field_count
  pub rest :
      onward (ltb (next_of t v n) m) (walk_from t m v (l - 1) (a - (l - 1)) (b || cut_of t v n) (next_of t v n)) ≡
      walk_from t m v a 0 false 0

abbrev pub Checked : ℕ → ℕ → Result ℕ Refusal → Type 0
Checked m next r = r ≡ cond (ltb next m) (Ok next) (Err Table)

module _ {t : List ℕ} {m : ℕ} {v : ℕ → Seen} {a l : ℕ} {b : Bool} {n : ℕ} where
  pub asking : Walking t m v a l b n → {ws : List ℕ} → ws ≡ record_at t n → ends_at ws l ≡ false → Asking t m v a l b n
  unfolding damaged
  asking w is e =
      let free =
      clear (eqb (word_of t n kind_at) 0) (ltb kind_at_least (word_of t n kind_at)) (ltb last_field (word_of t n field_at)) (eqb l 0)
      (sym (ends_words t n is l) ∙ e) in
      let left : 0 < l = pos_of_ne-zero (eqb-false l 0 free.3) in
      let fewer : l - 1 < a = omega (arith, w.within) in
      let more : l ≡ suc (l - 1) = omega arith in
      let whole : walk_from t m v (suc (l - 1)) (a - suc (l - 1)) b n ≡ walk_from t m v a 0 false 0 = rw more at w.rest in
      let low : word_of t n field_at ≤ last_field = ltb-false last_field (word_of t n field_at) free.2 in
      record {
        some = left;
        within = w.within;
        known = omega arith;
        rest = sym (at_question t m v b n a (l - 1) fewer free.1 free.0) ∙ whole;
      }

  module _ (q : Asking t m v a l b n) {next : ℕ} (leads : next_of t v n ≡ next) where
    -- The way leads to no record, or to the next.
    pub lost : (r : Refusal) → Checked m next (Err r) → Err r ≡ walk_from t m v a 0 false 0
    unfolding onward
    lost r =
        by_test (Checked m next (Err r) → Err r ≡ walk_from t m v a 0 false 0) (ltb next m)
        (λ h e. let e' : Err r ≡ Ok next = rw h at e in absurd cc)
        (λ h e. let e' : Err r ≡ Err Table = rw h at e in let r' : r ≡ Table = cc in ap Err r' ∙ rw (leads, h) at q.rest)

    pub moved : (x : ℕ) → Checked m next (Ok x) → Walking t m v a (l - 1) (b || cut_of t v n) x
    unfolding onward
    moved x =
        by_test (Checked m next (Ok x) → Walking t m v a (l - 1) (b || cut_of t v n) x) (ltb next m)
        (λ h e.
        let e' : Ok x ≡ Ok next = rw h at e in
        let same : next ≡ x = cc in
        subst (Walking t m v a (l - 1) (b || cut_of t v n)) same
        (record { inside = ltb-true next m h; within = omega (arith, q.within); rest = rw (leads, h) at q.rest }))
        (λ h e. let e' : Ok x ≡ Err Table = rw h at e in absurd cc)

-- The way that the code takes is the way of the definition.
module _ (t : List ℕ) (v : ℕ → Seen) (n : ℕ) {w : List ℕ} (is : w ≡ record_at t n) where
  pub way_absent : reading_of (v (word_in w field_at)) ≡ None → next_of t v n ≡ word_in w absent_at
  unfolding next_of next_by
  way_absent e = rw (← word_is t n is field_at (omega arith), e, word_is t n is absent_at (omega arith))

  module _ {x : ℕ} (e : reading_of (v (word_in w field_at)) ≡ Some x) where
    way_value :
        next_of t v n ≡
        cond (holds (test_of (word_in w kind_at) (word_in w mask_at) (word_in w value_at)) x) (word_in w holds_at) (word_in w fails_at)
    unfolding next_of next_by
    way_value =
        rw (
          ← word_is t n is field_at (omega arith),
          e,
          word_is t n is kind_at (omega arith),
          word_is t n is mask_at (omega arith),
          word_is t n is value_at (omega arith),
          word_is t n is holds_at (omega arith),
          word_is t n is fails_at (omega arith),
        )

    -- A question of a field that has a value leaves the mark.
    pub mark_stays : (b : Bool) → (b || cut_of t v n) ≡ b
    unfolding cut_of
    mark_stays b = let value : reading_of (v (word_of t n field_at)) ≡ Some x = rw (← word_is t n is field_at (omega arith)) e in
        rw (value_uncut (v (word_of t n field_at)) value) (or-false b)

    pub way_holds : holds (test_of (word_in w kind_at) (word_in w mask_at) (word_in w value_at)) x ≡ true → next_of t v n ≡ word_in w holds_at
    way_holds h = way_value ∙ rw h

    pub way_fails : holds (test_of (word_in w kind_at) (word_in w mask_at) (word_in w value_at)) x ≡ false → next_of t v n ≡ word_in w fails_at
    way_fails h = way_value ∙ rw h

-- The field is cut there exactly where its bit is in the set.
pub mark_absent :
    (t f : List ℕ) (p n : ℕ) {w : List ℕ} (is : w ≡ record_at t n) (met : ℕ) →
    word_of t n field_at < field_count →
    (meets (cut_set f p) met || cut_of t (seen f p) n) ≡ meets (cut_set f p) (bit_or met ((1 * 2 ^ word_in w field_at) % 2 ^ 64))
unfolding cut_of cut_set
mark_absent t f p n is met known =
    let k = word_of t n field_at in
    let cut : member k (set_of (tally field_count (λ i. is_cut (seen f p i)))) ≡ is_cut (seen f p k) =
    member_tally field_count (λ i. is_cut (seen f p i)) k ∙ rw (lt-ltb k field_count known) in
    let moved : (1 * 2 ^ k) % 2 ^ 64 ≡ 2 ^ k = shl_exact {a = 1} 1 k 64 (lit< tt) (omega (arith, known)) ∙ one-mul (2 ^ k) in
    rw (word_is t n is field_at (omega arith), moved, ← cut) (sym (meets_more k (cut_set f p) met))
