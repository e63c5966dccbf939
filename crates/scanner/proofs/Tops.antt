-- The filters of a set above which none of the set ranks.
--   top_column      by the column, as by the list
--   lone_held       where one filter holds at most, those that hold are the match set
--   top_matches, top_held   of the filters that hold, the match set
use Rattle.std.specs.Prelude.{ℕ, ◌-◌, ◌<◌, ◌≡◌, Bool, true, false, not, ◌&&◌, List, eqb, length, get_or, Option}
use Rattle.std.proofs.Common.{sym, ap, ap₂, ◌∙◌, subst, lt-ltb, eqb-true}
use Rattle.std.specs.Int.Bits.{bit_and}
use Rattle.residue.specs.laws.Choice.{same_bool, clash}
use Rattle.sets.specs.Sets.{set_of, tally, member, some}
use Rattle.sets.specs.laws.Lone.{alone}
use Rattle.sets.specs.laws.Members.{member_tally, get_or_tally, tally_ext, some_ext}
use Rattle.lists.specs.declared.Rank.{Rank}
use Rattle.lists.specs.Filters.{Filter}
use Rattle.lists.specs.Ranks.{above, fires, matches, match_set}
use Rattle.lists.specs.Columns.{above_by, Heads}
use Rattle.lists.specs.laws.Columns.{above_agrees}
use Rattle.lists.specs.laws.Ranking.{above_irreflexive}
use Rattle.lists.specs.laws.Topmost as T
use Rattle.scanner.specs.inner.Standing.{beaten_by, stands_by, top_set}

module _ (fs : List Filter) where
  -- Filter i is in a set that p gives, and none of the set ranks above it.
  abbrev top : (ℕ → Bool) → ℕ → Bool
  top p i = p i && not (some (length fs) (λ j. above fs j i && p j))

  pub top_column : (n : ℕ) (rs : List Rank) (s : ℕ) → Heads fs n rs → set_of (tally n (stands_by rs n s)) ≡ top_set fs s
  unfolding top_set stands_by beaten_by
  top_column n rs s h =
      rw (← h.count)
      (ap set_of
      (tally_ext n (stands_by rs n s) (λ i. member i s && not (some n (λ j. above fs j i && member j s)))
      (λ i l. ap (λ (b : Bool). member i s && not b)
      (some_ext n (λ j. above_by rs j i && member j s) (λ j. above fs j i && member j s)
      (λ j m. ap (λ (b : Bool). b && member j s) (above_agrees fs n rs h j i m l))))))

  module _ (r : ℕ → Option ℕ) where
    abbrev held : ℕ
    held = set_of (tally (length fs) (fires fs r))

    in_held : (i : ℕ) → i < length fs → member i held ≡ fires fs r i
    in_held i l = member_tally (length fs) (fires fs r) i ∙ ap (λ (b : Bool). b && fires fs r i) (lt-ltb i (length fs) l)

    pub top_matches : top_set fs held ≡ match_set fs r
    unfolding top_set match_set matches
    top_matches =
        ap set_of
        (tally_ext (length fs) (top (λ i. member i held)) (top (fires fs r))
        (λ i l. ap₂ (λ (a b : Bool). a && not b) (in_held i l)
        (some_ext (length fs) (λ j. above fs j i && member j held) (λ j. above fs j i && fires fs r j)
        (λ j m. ap (λ (b : Bool). above fs j i && b) (in_held j m)))))

    in_tally : (i : ℕ) → fires fs r i ≡ true → get_or (tally (length fs) (fires fs r)) i false ≡ true
    in_tally i e = get_or_tally (length fs) (fires fs r) false i (T.fires_below fs r i e) ∙ e

    lone_matches : bit_and held (held - 1) ≡ 0 → held ≡ match_set fs r
    unfolding match_set
    lone_matches e =
        ap set_of
        (tally_ext (length fs) (fires fs r) (λ i. matches fs r i)
        (λ i l. same_bool (fires fs r i) (matches fs r i)
        (λ f. T.top_matches fs r i f (λ j a g. clash (above fs i i)
        (subst (λ (k : ℕ). above fs k i ≡ true) (alone (tally (length fs) (fires fs r)) e j i (in_tally j g) (in_tally i f)) a)
        (above_irreflexive fs i)))
        (λ m. T.matches_fires fs r i m)))

-- Both where the set was made by readings that are the frame's.
module _ (fs : List Filter) (q r : ℕ → Option ℕ) (s : ℕ) (z : q ≡ r) (h : s ≡ set_of (tally (length fs) (fires fs q))) where
  pub top_held : top_set fs s ≡ match_set fs r
  top_held = rw (h, z) (top_matches fs r)

  whole : s ≡ set_of (tally (length fs) (fires fs r))
  whole = h ∙ ap (λ (p : ℕ → Option ℕ). set_of (tally (length fs) (fires fs p))) z

  pub lone_held : eqb (bit_and s (s - 1)) 0 ≡ true → s ≡ match_set fs r
  lone_held b = whole ∙ lone_matches fs r (ap (λ (x : ℕ). bit_and x (x - 1)) (sym whole) ∙ eqb-true (bit_and s (s - 1)) 0 b)
