-- Ranks read into a column, and rank sets worked out from the column.
--   Partway                      what has been written and what is still to be read make the whole
--   partway_start, partway_turn, partway_end
--   ranks_agree                  the column gives the list's own ranks
use Rattle.std.specs.Prelude.{ℕ, suc, ◌+◌, ◌-◌, ◌≤◌, ◌<◌, ◌≡◌, refl, Bool, true, false, cond, List, [], ◌∷◌, ◌++◌, map, ltb, length, take, drop, set}
use Rattle.std.proofs.Common.{sym, ap, ap₂, ◌∙◌, inl, inr, append-nil, add-one, arith, length-set, take-suc-set, ltb-true, eq-or-lt_of_le}
use lib.Seq.{append_snoc}
use Rattle.sets.specs.Sets.{set_of, tally}
use Rattle.sets.specs.laws.Members.{tally_ext, tally_more}
use Rattle.lists.specs.declared.Rank.{Rank}
use Rattle.lists.specs.Filters.{Filter, max_filters, filter_words, filter_of, filters_from, filters_of}
use Rattle.lists.specs.laws.Walking.{filters_step, filters_none}
use Rattle.lists.specs.Ranks.{above, rank_set, rank_sets}
use Rattle.lists.specs.inner.Columns.{rank_set_by}
use Rattle.lists.specs.Columns.{rank_of, above_by, Heads}
use Rattle.lists.specs.laws.Columns.{above_agrees}

-- What is behind the filter that the words begin with.
abbrev behind : List ℕ → List ℕ
behind r = drop (filter_words r) r

filters_turn : (r : List ℕ) (n : ℕ) → n < max_filters → 0 < length r → filters_from (max_filters - n) r ≡ filter_of r ∷ filters_from (max_filters - (n + 1)) (behind r)
filters_turn r n h l =
    let z : max_filters - n ≡ suc (max_filters - (n + 1)) = omega arith in
    rw z (filters_step (max_filters - (n + 1)) r l)

-- Where there is no room for a filter, or there are no words, none is left.
filters_end : (r : List ℕ) (n : ℕ) → (n < max_filters → r ≡ []) → n ≤ max_filters → filters_from (max_filters - n) r ≡ []
unfolding filters_from
filters_end r n e l =
    elim (eq-or-lt_of_le l) as (λ _. filters_from (max_filters - n) r ≡ []) [
      | inl z ↦ (let y : max_filters - n ≡ 0 = omega arith in rw y)
      | inr h ↦ ap (filters_from (max_filters - n)) (e h) ∙ filters_none (max_filters - n)
    ]

-- What stands in a column and what is still to be read.
abbrev column : List ℕ → ℕ → List Rank → List Rank
column r n rs = take n rs ++ map rank_of (filters_from (max_filters - n) r)

column_turn : (r : List ℕ) (rs : List Rank) (n : ℕ) → n < max_filters → 0 < length r → n < length rs → column (behind r) (n + 1) (set rs n (rank_of (filter_of r))) ≡ column r n rs
column_turn r rs n h l m =
    let f = filter_of r in
    let later : List Rank = map rank_of (filters_from (max_filters - (n + 1)) (behind r)) in
    rw (filters_turn r n h l)
    (ap (λ (k : ℕ). take k (set rs n (rank_of f)) ++ later) (add-one n) ∙
    ap (λ (xs : List Rank). xs ++ later) (take-suc-set rs n (rank_of f) m) ∙
    append_snoc (take n rs) (rank_of f) later)

pub record Partway (ws r : List ℕ) (n : ℕ) (rs : List Rank) : Type 0 where
  pub room : length rs ≡ max_filters
  pub count : n + length (filters_from (max_filters - n) r) ≡ length (filters_of ws)
  pub ranks : column r n rs ≡ map rank_of (filters_of ws)

pub partway_start : (ws : List ℕ) (rs : List Rank) → length rs ≡ max_filters → Partway ws ws 0 rs
unfolding filters_of
partway_start ws rs r = record { room = r; count = omega arith; ranks = refl }

pub partway_turn : (ws r : List ℕ) (rs : List Rank) (n : ℕ) (x : Rank) → n < max_filters → 0 < length r → x ≡ rank_of (filter_of r) → Partway ws r n rs → Partway ws (behind r) (n + 1) (set rs n x)
partway_turn ws r rs n x h l e p =
    record {
      room = length-set rs n x ∙ p.room;
      count = omega (arith, p.count, ap length (filters_turn r n h l));
      ranks = rw e (column_turn r rs n h l (omega (arith, p.room)) ∙ p.ranks);
    }

pub partway_end : (ws r : List ℕ) (rs : List Rank) (n : ℕ) → (n < max_filters → r ≡ []) → n ≤ max_filters → Partway ws r n rs → Heads (filters_of ws) n rs
partway_end ws r rs n e l p =
    let z = filters_end r n e l in
    record {
      count = omega (arith, rw z at p.count);
      few = l;
      ranks = sym (append-nil (take n rs)) ∙ rw z at p.ranks;
    }

rank_agrees : (fs : List Filter) (n : ℕ) (rs : List Rank) → Heads fs n rs → (i : ℕ) → rank_set_by rs n i ≡ rank_set fs i
unfolding rank_set_by rank_set
rank_agrees fs n rs h i = rw (← h.count) (go (ltb i n) refl)
  where
    go : (b : Bool) → ltb i n ≡ b → cond b (set_of (tally n (λ j. above_by rs j i))) 0 ≡ cond b (set_of (tally n (λ j. above fs j i))) 0
    go true e = ap set_of (tally_ext n (λ j. above_by rs j i) (λ j. above fs j i) (λ j l. above_agrees fs n rs h j i l (ltb-true i n e)))
    go false e = refl

pub ranks_agree : (fs : List Filter) (n : ℕ) (rs : List Rank) → Heads fs n rs → tally max_filters (rank_set_by rs n) ≡ rank_sets fs
unfolding rank_sets
ranks_agree fs n rs h = tally_ext max_filters (rank_set_by rs n) (rank_set fs) (λ i l. rank_agrees fs n rs h i)

-- One more element of a list that is written from the front.
pub tally_turn : (f : ℕ → ℕ) (l : List ℕ) (i v : ℕ) → i < length l → v ≡ f i → take i l ≡ tally i f → take (i + 1) (set l i v) ≡ tally (i + 1) f
tally_turn f l i v h e t =
    rw add-one (take-suc-set l i v h) ∙
    ap₂ (λ (xs : List ℕ) (x : ℕ). xs ++ (x ∷ [])) t e ∙ sym (tally_more i f)
