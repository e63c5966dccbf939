-- A list whose filters change their group: its words mean the same filters in the other group, and are accepted or refused as before.
--   moved_filters    what the words mean
--   moved_listed     what refusals 1 to 9 say of them
--   group_in_lem, at_moved   a filter of such a list
use Rattle.std.specs.Prelude.{ℕ, zero, suc, ◌+◌, ◌*◌, ◌≤◌, ◌<◌, ◌≡◌, refl, true, eqb, length, get_or, take, drop}
use Rattle.std.proofs.Common.{not-suc-le-zero, le_of_suc-le-suc, arith, sym, ap, ◌∙◌, length-append, take-append-drop, get_or-drop}
use Rattle.std.proofs.Math.Path.{ap₂}
use mathlib.Core.List.{List, [], ◌∷◌, ◌++◌}
use borrow.Author.Tests.{eqb-true, le-ltb}
use Rattle.residue.specs.laws.Choice.{first, second}
use Rattle.lists.specs.Filters.{max_filters, max_rank, head_words, test_words, level_word, count_word, filter_words, Item, Filter, item_of, items_of, filter_of, filters_from, filters_of}
use Rattle.lists.specs.Words.{words_of}
use Rattle.lists.specs.Refusals.{tests_fault, filter_fault, listed_from, listed}
use Rattle.lists.specs.Ranks.{no_filter, group_of}
use Rattle.lists.specs.inner.Moved.{all_in, in_group, moved, rest_words, moved_from, moved_words}

-- ---- filters

pub group_in_lem : (g : ℕ) (fs : List Filter) → all_in g fs ≡ true → (i : ℕ) → i < length fs → group_of fs i ≡ g
unfolding all_in
group_in_lem g [] e i l = absurd (not-suc-le-zero l)
group_in_lem g (f ∷ fs) e zero l = eqb-true f.group g (first (eqb f.group g) (all_in g fs) e)
group_in_lem g (f ∷ fs) e (suc i) l = group_in_lem g fs (second (eqb f.group g) (all_in g fs) e) i (le_of_suc-le-suc l)

pub at_moved : (g : ℕ) (fs : List Filter) (i : ℕ) → i < length fs → get_or (moved g fs) i no_filter ≡ in_group g (get_or fs i no_filter)
unfolding moved
at_moved g [] i l = absurd (not-suc-le-zero l)
at_moved g (f ∷ fs) zero l = refl
at_moved g (f ∷ fs) (suc i) l = at_moved g fs i (le_of_suc-le-suc l)

-- ---- words that begin alike

-- The first n words of xs and ys are the same.
abbrev Alike : ℕ → List ℕ → List ℕ → Type 0
Alike n xs ys = (i : ℕ) → i < n → get_or xs i 0 ≡ get_or ys i 0

alike_drop : (k n : ℕ) (xs ys : List ℕ) → Alike (k + n) xs ys → Alike n (drop k xs) (drop k ys)
alike_drop k n xs ys h i l = get_or-drop k xs i 0 ∙ h (k + i) (omega arith) ∙ sym (get_or-drop k ys i 0)

alike_items : (n : ℕ) (xs ys : List ℕ) → Alike (test_words * n) xs ys → items_of n xs ≡ items_of n ys
unfolding items_of item_of
alike_items zero xs ys h = refl
alike_items (suc n) xs ys h =
    rw (
      h 0 (omega arith),
      h 1 (omega arith),
      h 2 (omega arith),
      h 3 (omega arith),
      alike_items n (drop test_words xs) (drop test_words ys) (alike_drop test_words (test_words * n) xs ys (λ i l. h i (omega arith))),
    )

alike_fault : (n : ℕ) (xs ys : List ℕ) → Alike (test_words * n) xs ys → tests_fault n xs ≡ tests_fault n ys
unfolding tests_fault words_of
alike_fault zero xs ys h = refl
alike_fault (suc n) xs ys h =
    rw (
      h 0 (omega arith),
      h 1 (omega arith),
      h 2 (omega arith),
      h 3 (omega arith),
      alike_fault n (drop test_words xs) (drop test_words ys) (alike_drop test_words (test_words * n) xs ys (λ i l. h i (omega arith))),
    )

-- ---- a part that stays, and a rest of the same length as before

none_long : (rest : List ℕ) → length rest ≡ 0 → rest ≡ []
none_long [] h = refl
none_long (x ∷ rest) h = absurd (omega arith)

front_length : (b : ℕ) (ws rest : List ℕ) → length rest ≡ length (drop b ws) → length (take b ws ++ rest) ≡ length ws
front_length b ws rest h =
    length-append (take b ws) rest ∙ ap (λ (n : ℕ). length (take b ws) + n) h ∙ sym (length-append (take b ws) (drop b ws)) ∙ ap length (take-append-drop b ws)

front_alike : (b : ℕ) (ws rest : List ℕ) → length rest ≡ length (drop b ws) → Alike b (take b ws ++ rest) ws
front_alike zero ws rest h i l = absurd (not-suc-le-zero l)
front_alike (suc b) [] rest h i l = ap (λ (xs : List ℕ). get_or xs i 0) (none_long rest h)
front_alike (suc b) (w ∷ ws) rest h zero l = refl
front_alike (suc b) (w ∷ ws) rest h (suc i) l = front_alike b ws rest h i (le_of_suc-le-suc l)

front_drop : (b : ℕ) (ws rest : List ℕ) → length rest ≡ length (drop b ws) → drop b (take b ws ++ rest) ≡ rest
front_drop zero ws rest h = refl
front_drop (suc b) [] rest h = ap (drop (suc b)) (none_long rest h) ∙ sym (none_long rest h)
front_drop (suc b) (w ∷ ws) rest h = front_drop b ws rest h

moved_length : (g n : ℕ) (ws : List ℕ) → length (moved_from g n ws) ≡ length ws
unfolding moved_from
moved_length g zero ws = refl
moved_length g (suc n) [] = refl
moved_length g (suc n) (w ∷ ws) = ap suc (front_length (rest_words (w ∷ ws)) ws (moved_from g n (drop (rest_words (w ∷ ws)) ws)) (moved_length g n (drop (rest_words (w ∷ ws)) ws)))

-- ---- one filter

module _ (g n w : ℕ) (ws : List ℕ) where
  abbrev b : ℕ
  b = rest_words (w ∷ ws)

  abbrev others : List ℕ
  others = moved_from g n (drop b ws)

  abbrev behind : List ℕ
  behind = take b ws ++ others

  behind_alike : Alike b behind ws
  behind_alike = front_alike b ws others (moved_length g n (drop b ws))

  behind_length : length behind ≡ length ws
  behind_length = front_length b ws others (moved_length g n (drop b ws))

  count_moved : count_word (g ∷ behind) ≡ count_word (w ∷ ws)
  count_moved = behind_alike 1 (omega arith)

  level_moved : level_word (g ∷ behind) ≡ level_word (w ∷ ws)
  level_moved = behind_alike 0 (omega arith)

  tests_alike : Alike (test_words * count_word (w ∷ ws)) (drop head_words (g ∷ behind)) (drop head_words (w ∷ ws))
  tests_alike = alike_drop 2 (test_words * count_word (w ∷ ws)) behind ws (λ i l. behind_alike i (omega arith))

  -- Behind the filter the others follow.
  then_moved : drop (filter_words (g ∷ behind)) (g ∷ behind) ≡ others
  then_moved =
      let z : filter_words (g ∷ behind) ≡ suc b = omega (arith, count_moved) in
      rw z (front_drop b ws others (moved_length g n (drop b ws)))

  then_before : drop (filter_words (w ∷ ws)) (w ∷ ws) ≡ drop b ws
  then_before = let z : filter_words (w ∷ ws) ≡ suc b = omega arith in ap (λ (k : ℕ). drop k (w ∷ ws)) z

  filter_moved : filter_of (g ∷ behind) ≡ in_group g (filter_of (w ∷ ws))
  unfolding filter_of in_group
  filter_moved =
      ap₂ (λ (l : ℕ) (ts : List Item). record { group = g; level = l; tests = ts }) level_moved
      (ap (λ (c : ℕ). items_of c (drop head_words (g ∷ behind))) count_moved ∙
      alike_items (count_word (w ∷ ws)) (drop head_words (g ∷ behind)) (drop head_words (w ∷ ws)) tests_alike)

  fault_moved : w ≤ max_rank → g ≤ max_rank → filter_fault (g ∷ behind) ≡ filter_fault (w ∷ ws)
  unfolding filter_fault
  fault_moved h k =
      rw (
        behind_length,
        level_moved,
        count_moved,
        le-ltb max_rank w h,
        le-ltb max_rank g k,
        alike_fault (count_word (w ∷ ws)) (drop head_words (g ∷ behind)) (drop head_words (w ∷ ws)) tests_alike,
      )

-- ---- the whole list

filters_moved : (g n : ℕ) (ws : List ℕ) → filters_from n (moved_from g n ws) ≡ moved g (filters_from n ws)
unfolding filters_from moved_from moved
filters_moved g zero ws = refl
filters_moved g (suc n) [] = refl
filters_moved g (suc n) (w ∷ ws) =
    ap₂ (λ (f : Filter) (fs : List Filter). f ∷ fs) (filter_moved g n w ws)
    (ap (filters_from n) (then_moved g n w ws) ∙ filters_moved g n (drop (rest_words (w ∷ ws)) ws) ∙ ap (λ (xs : List ℕ). moved g (filters_from n xs)) (sym (then_before g n w ws)))

pub moved_filters : (g : ℕ) (ws : List ℕ) → filters_of (moved_words g ws) ≡ moved g (filters_of ws)
unfolding filters_of moved_words
moved_filters g ws = filters_moved g max_filters ws

listed_moved :
    (h g : ℕ) → h ≤ max_rank → g ≤ max_rank → (n i t : ℕ) (ws : List ℕ) → all_in h (filters_from n ws) ≡ true →
    listed_from n i t (moved_from g n ws) ≡ listed_from n i t ws
unfolding listed_from moved_from filters_from all_in filter_of
listed_moved h g a c zero i t ws e = refl
listed_moved h g a c (suc n) i t [] e = refl
listed_moved h g a c (suc n) i t (w ∷ ws) e =
    let later = filters_from n (drop (filter_words (w ∷ ws)) (w ∷ ws)) in
    let same : w ≡ h = eqb-true w h (first (eqb w h) (all_in h later) e) in
    let rest : all_in h (filters_from n (drop (rest_words (w ∷ ws)) ws)) ≡ true = rw (then_before g n w ws) at (second (eqb w h) (all_in h later) e) in
    rw (
      fault_moved g n w ws (rw same a) c,
      then_moved g n w ws,
      then_before g n w ws,
      count_moved g n w ws,
      listed_moved h g a c n (i + 1) (t + count_word (w ∷ ws)) (drop (rest_words (w ∷ ws)) ws) rest,
    )

pub moved_listed : (h g : ℕ) → h ≤ max_rank → g ≤ max_rank → (ws : List ℕ) → all_in h (filters_of ws) ≡ true → listed (moved_words g ws) ≡ listed ws
unfolding listed filters_of moved_words
moved_listed h g a c ws e = listed_moved h g a c max_filters 0 0 ws e
