-- Records that have the same question and the same sets.
--   agree_self      a record agrees with itself
--   agree_next      a next number that is put in changes nothing of it
--   agree_parts     it agrees with a fresh one where the sets and the question are those of it
--   agreeing_find   the first that agrees is what the library's find says
--   agreeing_here, agreeing_on, agreeing_end   whether the next record agrees decides; where there is no more, none
--   agreeing_pairs   the search may begin at the first pair with one that agrees
--   First, agreeing_first   it is one of those looked at, agrees, and none before it does
--   agreeing_none   where there is none, none of those looked at agrees
--   agreeing_in     the first record that agrees lies among those looked at
--   agreeing_over   none before it agrees, or none at all where there is none
use Prim.Native.Nat.{ℕ, zero, suc, ◌+◌, ◌*◌, ◌-◌, ◌/◌, ◌%◌, ◌≤◌, ◌<◌}
use native.Mathlib.Omega.{arith}
use Rattle.std.specs.Prelude.{◌≡◌, Bool, List, ◌&&◌, ◌||◌, get_or, set, Option, None, Some, IfSome, unwrap_or}
use Rattle.std.specs.List.{find, range_with_len}
use Rattle.std.proofs.Math.Path.{refl, subst, ap}
use Rattle.std.proofs.Common.{sym, ◌∙◌, lit<, get_or-set_other}
use Rattle.std.proofs.Math.Bool.{true, false, cond, and_assoc}
use Rattle.std.proofs.Math.Dec.{eqb}
use borrow.Author.Tests.{eq-eqb, eqb-true, eqb-false}
use Rattle.residue.specs.laws.Choice.{by_test, neither}
use Rattle.residue.specs.declared.Outcome.{Outcome}
use Rattle.residue.specs.declared.Outcome.TheVariants.{Holds, Fails, Absent}
use Rattle.lists.specs.Filters.{kind_at, field_at, mask_at, value_at}
use Rattle.lists.specs.Words.{test_list, words_of}
use Rattle.tables.specs.Tables.{sure_at, out_at, next_at, set_at, record_with}
use Rattle.tables.specs.declared.Fresh.{Fresh}
use Rattle.tables.specs.inner.Records.{fresh_record, fresh_by, fresh_in, agree, record_at, agreeing_from}
use Rattle.tables.proofs.laws.Layout.{sure_in, out_in}

pub agree_self : (r : List ℕ) → agree r r ≡ true
unfolding agree
agree_self r =
    rw (
      eq-eqb (set_at (λ j. get_or r j 0) out_at) (set_at (λ j. get_or r j 0) out_at) refl,
      eq-eqb (set_at (λ j. get_or r j 0) sure_at) (set_at (λ j. get_or r j 0) sure_at) refl,
      eq-eqb (get_or r kind_at 0) (get_or r kind_at 0) refl,
      eq-eqb (get_or r field_at 0) (get_or r field_at 0) refl,
      eq-eqb (get_or r mask_at 0) (get_or r mask_at 0) refl,
      eq-eqb (get_or r value_at 0) (get_or r value_at 0) refl,
    )

-- The next numbers stand between the question and the sets.
next_between : (o : Outcome) → (value_at < next_at o) × (next_at o < sure_at)
unfolding next_at
next_between Holds = (lit< tt, lit< tt)
next_between Fails = (lit< tt, lit< tt)
next_between Absent = (lit< tt, lit< tt)

-- A word before a set is none of the set's.
set_kept : (k : ℕ) (v : ℕ) (r : List ℕ) (at : ℕ) → k < at → set_at (λ j. get_or (set r k v) j 0) at ≡ set_at (λ j. get_or r j 0) at
unfolding set_at
set_kept k v r at h =
    rw (
      get_or-set_other r k at v 0 (λ (e : at ≡ k). omega arith),
      get_or-set_other r k (at + 1) v 0 (λ (e : at + 1 ≡ k). omega arith),
    )

pub agree_next : (o : Outcome) (v : ℕ) (r f : List ℕ) → agree (set r (next_at o) v) f ≡ agree r f
unfolding agree
agree_next o v r f =
    let low = (next_between o).0 in
    let high = (next_between o).1 in
    rw (
      set_kept (next_at o) v r out_at (omega arith),
      set_kept (next_at o) v r sure_at high,
      get_or-set_other r (next_at o) kind_at v 0 (λ (e : kind_at ≡ next_at o). omega arith),
      get_or-set_other r (next_at o) field_at v 0 (λ (e : field_at ≡ next_at o). omega arith),
      get_or-set_other r (next_at o) mask_at v 0 (λ (e : mask_at ≡ next_at o). omega arith),
      get_or-set_other r (next_at o) value_at v 0 (λ (e : value_at ≡ next_at o). omega arith),
    )

-- ---- a fresh record

module _ (f : Fresh) where
  fresh_out : set_at (λ j. get_or (fresh_by f) j 0) out_at ≡ f.out
  unfolding fresh_by fresh_record
  fresh_out = out_in (test_list f.asked) (λ _. 0) f.sure f.out refl

  fresh_sure : set_at (λ j. get_or (fresh_by f) j 0) sure_at ≡ f.sure
  unfolding fresh_by fresh_record
  fresh_sure = sure_in (test_list f.asked) (λ _. 0) f.sure f.out refl

  pub agree_parts :
      (r : List ℕ) →
      agree r (fresh_by f) ≡
      (eqb (fresh_in r).out f.out && (eqb (fresh_in r).sure f.sure &&
      (eqb (fresh_in r).asked.kind f.asked.kind && (eqb (fresh_in r).asked.field f.asked.field &&
      (eqb (fresh_in r).asked.mask f.asked.mask && eqb (fresh_in r).asked.value f.asked.value)))))
  unfolding agree fresh_in fresh_by fresh_record record_with words_of
  agree_parts r = rw (fresh_out, fresh_sure) (simp and_assoc)

-- ---- the first record that agrees

module _ (t f : List ℕ) where
  pub agreeing_find : (k n : ℕ) → agreeing_from k n t f ≡ find (λ i. agree (record_at t i) f) (range_with_len n k)
  unfolding agreeing_from
  agreeing_find zero n = refl
  agreeing_find (suc k) n = ap (λ r. cond (agree (record_at t n) f) (Some n) r) (agreeing_find k (n + 1))

  pub agreeing_here : (k n : ℕ) → agree (record_at t n) f ≡ true → agreeing_from (suc k) n t f ≡ Some n
  unfolding agreeing_from
  agreeing_here k n e = rw e

  pub agreeing_on : (k n : ℕ) → agree (record_at t n) f ≡ false → agreeing_from (suc k) n t f ≡ agreeing_from k (n + 1) t f
  unfolding agreeing_from
  agreeing_on k n e = rw e

  pub agreeing_end : (n : ℕ) → agreeing_from 0 n t f ≡ None
  unfolding agreeing_from
  agreeing_end n = refl

  -- One of two records that follow one another agrees.
  abbrev pub in_pair : ℕ → Bool
  in_pair n = agree (record_at t n) f || agree (record_at t (n + 1)) f

  -- The search may begin at the first pair with one that agrees, or behind the pairs where none has.
  pairs_from :
      (n r k a p : ℕ) →
      unwrap_or (find (λ i. in_pair (n + 2 * i)) (range_with_len a k)) (a + k) ≡ p →
      (p ≤ a + k) × (agreeing_from (2 * k + r) (n + 2 * a) t f ≡ agreeing_from (2 * (a + k - p) + r) (n + 2 * p) t f)
  pairs_from n r zero a p e =
      let more : 2 * 0 + r ≡ 2 * (a + 0 - p) + r = omega arith in
      let at : n + 2 * a ≡ n + 2 * p = omega arith in
      (omega arith, cc)
  pairs_from n r (suc k) a p e =
      by_test ((p ≤ a + suc k) × (agreeing_from (2 * suc k + r) (n + 2 * a) t f ≡ agreeing_from (2 * (a + suc k - p) + r) (n + 2 * p) t f)) (in_pair (n + 2 * a))
      (λ h.
      let here : a ≡ p = rw h at e in
      let more : 2 * suc k + r ≡ 2 * (a + suc k - p) + r = omega arith in
      let at : n + 2 * a ≡ n + 2 * p = omega arith in
      (omega arith, cc))
      (λ h.
      let none = neither (agree (record_at t (n + 2 * a)) f) (agree (record_at t (n + 2 * a + 1)) f) h in
      let past : a + suc k ≡ a + 1 + k = omega arith in
      let behind : unwrap_or (find (λ i. in_pair (n + 2 * i)) (range_with_len (a + 1) k)) (a + 1 + k) ≡ p = rw (h, past) at e in
      let next = pairs_from n r k (a + 1) p behind in
      let one : 2 * suc k + r ≡ suc (suc (2 * k + r)) = omega arith in
      let two : n + 2 * a + 1 + 1 ≡ n + 2 * (a + 1) = omega arith in
      let less : 2 * (a + 1 + k - p) + r ≡ 2 * (a + suc k - p) + r = omega arith in (
        omega (arith, next.0),
        ap (λ k. agreeing_from k (n + 2 * a) t f) one ∙ agreeing_on (suc (2 * k + r)) (n + 2 * a) none.0 ∙ agreeing_on (2 * k + r) (n + 2 * a + 1) none.1
            ∙ ap (λ i. agreeing_from (2 * k + r) i t f) two ∙ next.1 ∙ ap (λ k. agreeing_from k (n + 2 * p) t f) less,
      ))

  pub agreeing_pairs :
      (n m p : ℕ) →
      unwrap_or (find (λ i. in_pair (n + 2 * i)) (range_with_len 0 ((m - n) / 2))) ((m - n) / 2) ≡ p →
      (2 * p ≤ m - n) × (agreeing_from (m - n) n t f ≡ agreeing_from (m - (n + 2 * p)) (n + 2 * p) t f)
  agreeing_pairs n m p e =
      let none_before : 0 + (m - n) / 2 ≡ (m - n) / 2 = omega arith in
      let first = pairs_from n ((m - n) % 2) ((m - n) / 2) 0 p (rw none_before e) in
      let whole : m - n ≡ 2 * ((m - n) / 2) + (m - n) % 2 = omega arith in
      let start : n ≡ n + 2 * 0 = omega arith in
      let left : 2 * (0 + (m - n) / 2 - p) + (m - n) % 2 ≡ m - (n + 2 * p) = omega (arith, first.0) in (
        omega (arith, first.0),
        ap (λ k. agreeing_from k n t f) whole ∙ ap (λ i. agreeing_from (2 * ((m - n) / 2) + (m - n) % 2) i t f) start ∙ first.1
            ∙ ap (λ k. agreeing_from k (n + 2 * p) t f) left,
      )

  -- It is one of those looked at, and agrees, and none before it does.
  pub record First (k n i : ℕ) : Type 0 where
    pub from : n ≤ i
    pub below : i < n + k
    pub agrees : agree (record_at t i) f ≡ true
    pub over : (j : ℕ) → n ≤ j → j < i → agree (record_at t j) f ≡ false

  -- What is so of the first place and of those behind it is so of each.
  each_from : (n j : ℕ) (P : ℕ → Type 0) → n ≤ j → P n → (n + 1 ≤ j → P j) → P j
  each_from n j P low here behind = by_test (P j) (eqb n j) (λ q. subst P (eqb-true n j q) here) (λ q. let other = eqb-false n j q in behind (omega arith))

  pub agreeing_first : (k n i : ℕ) → agreeing_from k n t f ≡ Some i → First k n i
  agreeing_first zero n i e = let none : None ≡ Some i = sym (agreeing_end n) ∙ e in absurd cc
  agreeing_first (suc k) n i e =
      by_test (First (suc k) n i) (agree (record_at t n) f)
      (λ h.
      let found : Some n ≡ Some i = sym (agreeing_here k n h) ∙ e in
      let here : n ≡ i = cc in
      record { from = omega arith; below = omega arith; agrees = subst (λ j. agree (record_at t j) f ≡ true) here h; over = λ j low high. absurd (omega arith) })
      (λ h.
      let next = agreeing_first k (n + 1) i (sym (agreeing_on k n h) ∙ e) in
      record {
        from = omega (arith, next.from);
        below = omega (arith, next.below);
        agrees = next.agrees;
        over = λ j low high. each_from n j (λ m. agree (record_at t m) f ≡ false) low h (λ behind. next.over j behind high);
      })

  pub agreeing_none : (k n : ℕ) → agreeing_from k n t f ≡ None → (j : ℕ) → n ≤ j → j < n + k → agree (record_at t j) f ≡ false
  agreeing_none zero n e j low high = absurd (omega arith)
  agreeing_none (suc k) n e j low high =
      by_test (agree (record_at t j) f ≡ false) (agree (record_at t n) f)
      (λ h. let found : Some n ≡ None = sym (agreeing_here k n h) ∙ e in absurd cc)
      (λ h. each_from n j (λ m. agree (record_at t m) f ≡ false) low h (λ behind. agreeing_none k (n + 1) (sym (agreeing_on k n h) ∙ e) j behind (omega arith)))

  pub agreeing_in : (k n : ℕ) → IfSome (agreeing_from k n t f) (λ i. (n ≤ i) × (i < n + k))
  agreeing_in k n = go (agreeing_from k n t f) refl
    where
      go : (o : Option ℕ) → agreeing_from k n t f ≡ o → IfSome o (λ i. (n ≤ i) × (i < n + k))
      go None e = tt
      go (Some i) e = let first = agreeing_first k n i e in (first.from, first.below)

  pub agreeing_over : (k n j : ℕ) → n ≤ j → j < unwrap_or (agreeing_from k n t f) (n + k) → agree (record_at t j) f ≡ false
  agreeing_over k n j low = go (agreeing_from k n t f) refl
    where
      go : (o : Option ℕ) → agreeing_from k n t f ≡ o → j < unwrap_or o (n + k) → agree (record_at t j) f ≡ false
      go None e high = agreeing_none k n e j low high
      go (Some i) e high = let first = agreeing_first k n i e in first.over j low high
