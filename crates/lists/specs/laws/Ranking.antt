-- Ranks are an order: no filter ranks above itself, and above is transitive; and what a rank set says of a set of filters.
--   alone_above, alone_below         a filter of group 0 ranks above none and below none
--   get_or_rank_sets, rank_set_in    a filter's rank set
--   rank_set_clear                   none of a set of the list's filters ranks above a filter
use Rattle.std.specs.Prelude.{ℕ, ◌≤◌, ◌<◌, ◌≡◌, Bool, ◌&&◌, ◌||◌, List, length, get_or}
use Rattle.std.proofs.Common.{arith, ap, ◌∙◌}
use Rattle.std.proofs.Math.Path.{refl}
use Rattle.std.proofs.Math.Bool.{true, false, not}
use Rattle.std.specs.Int.Bits.{bit_and}
use Rattle.std.proofs.Math.Dec.{ltb, eqb}
use borrow.Author.Tests.{ltb-true, ltb-false, eqb-true, not-true, lt-ltb, eq-eqb}
use Rattle.residue.specs.laws.Choice.{never, both, first, second, clash}
use Rattle.sets.specs.Sets.{set_of, tally, some}
use Rattle.sets.specs.laws.Members.{length_tally, get_or_tally, and_tally_zero}
use Rattle.lists.specs.Filters.{max_filters, Filter}
use Rattle.lists.specs.Ranks.{group_of, level_of, outranks, above, rank_set, rank_sets}

-- In one group, which is not 0, not lower, and earlier where the levels are the same.
record Higher (fs : List Filter) (i j : ℕ) : Type 0 where
  grouped : not (eqb (group_of fs i) 0) ≡ true
  same : group_of fs i ≡ group_of fs j
  lower : level_of fs j ≤ level_of fs i
  earlier : level_of fs i ≡ level_of fs j → i < j

module _ (fs : List Filter) where
  abbrev tie : ℕ → ℕ → Bool
  tie i j = eqb (level_of fs i) (level_of fs j) && ltb i j

  higher : (i j : ℕ) → above fs i j ≡ true → Higher fs i j
  unfolding above outranks
  higher i j e =
      let b = ltb (level_of fs j) (level_of fs i) in
      let grouped = not (eqb (group_of fs i) 0) in
      let one = eqb (group_of fs i) (group_of fs j) in
      let g = first (grouped && one) (b || tie i j) e in
      go (first grouped one g) (eqb-true (group_of fs i) (group_of fs j) (second grouped one g)) b refl (second (grouped && one) (b || tie i j) e)
    where
      go :
          not (eqb (group_of fs i) 0) ≡ true → group_of fs i ≡ group_of fs j → (b : Bool) → ltb (level_of fs j) (level_of fs i) ≡ b → (b || tie i j) ≡ true →
          Higher fs i j
      go g s true z q =
          let y = ltb-true (level_of fs j) (level_of fs i) z in
          record { grouped = g; same = s; lower = omega arith; earlier = λ (x : level_of fs i ≡ level_of fs j). absurd (omega arith) }
      go g s false z q =
          let l = eqb-true (level_of fs i) (level_of fs j) (first (eqb (level_of fs i) (level_of fs j)) (ltb i j) q) in
          record { grouped = g; same = s; lower = omega (arith, l); earlier = λ _. ltb-true i j (second (eqb (level_of fs i) (level_of fs j)) (ltb i j) q) }

  is_above : (i j : ℕ) → Higher fs i j → above fs i j ≡ true
  unfolding above outranks
  is_above i j r = rw (r.grouped, eq-eqb (group_of fs i) (group_of fs j) r.same) (go (ltb (level_of fs j) (level_of fs i)) refl)
    where
      go : (b : Bool) → ltb (level_of fs j) (level_of fs i) ≡ b → (b || tie i j) ≡ true
      go true z = refl
      go false z =
          let e : level_of fs i ≡ level_of fs j = omega (arith, ltb-false (level_of fs j) (level_of fs i) z, r.lower) in
          both (eqb (level_of fs i) (level_of fs j)) (ltb i j) (eq-eqb (level_of fs i) (level_of fs j) e) (lt-ltb i j (r.earlier e))

  pub alone_above : (i j : ℕ) → group_of fs i ≡ 0 → above fs i j ≡ false
  unfolding above outranks
  alone_above i j z = rw z

  pub alone_below : (i j : ℕ) → group_of fs j ≡ 0 → above fs i j ≡ false
  alone_below i j z =
      never (above fs i j)
      (λ e.
      let h = higher i j e in
      clash (eqb (group_of fs i) 0) (eq-eqb (group_of fs i) 0 (h.same ∙ z)) (not-true (eqb (group_of fs i) 0) h.grouped))

  pub above_irreflexive : (i : ℕ) → above fs i i ≡ false
  above_irreflexive i = never (above fs i i) (λ e. omega (arith, (higher i i e).earlier refl))

  pub above_transitive : (i j k : ℕ) → above fs i j ≡ true → above fs j k ≡ true → above fs i k ≡ true
  above_transitive i j k p q =
      let x = higher i j p in
      let y = higher j k q in
      is_above i k
      (record {
        grouped = x.grouped;
        same = x.same ∙ y.same;
        lower = omega (arith, x.lower, y.lower);
        earlier = λ (e : level_of fs i ≡ level_of fs k). omega (arith, x.earlier (omega (arith, x.lower, y.lower)), y.earlier (omega (arith, x.lower, y.lower)));
      })

-- ---- rank sets

pub length_rank_sets : (fs : List Filter) → length (rank_sets fs) ≡ max_filters
unfolding rank_sets
length_rank_sets fs = length_tally max_filters (rank_set fs)

pub get_or_rank_sets : (fs : List Filter) (i : ℕ) → i < max_filters → get_or (rank_sets fs) i 0 ≡ rank_set fs i
unfolding rank_sets
get_or_rank_sets fs i l = get_or_tally max_filters (rank_set fs) 0 i l

pub rank_set_in : (fs : List Filter) (i : ℕ) → i < length fs → rank_set fs i ≡ set_of (tally (length fs) (λ j. above fs j i))
unfolding rank_set
rank_set_in fs i l = rw (lt-ltb i (length fs) l)

-- None of a set of the list's filters ranks above filter i.
pub rank_set_clear : (fs : List Filter) (p : ℕ → Bool) (i : ℕ) → i < length fs → eqb (bit_and (rank_set fs i) (set_of (tally (length fs) p))) 0 ≡ not (some (length fs) (λ j. above fs j i && p j))
rank_set_clear fs p i l =
    ap (λ (s : ℕ). eqb (bit_and s (set_of (tally (length fs) p))) 0) (rank_set_in fs i l) ∙
    and_tally_zero (length fs) (λ j. above fs j i) p
