-- Cutting one filter's words: stores one after the other, zeros behind, and one more test behind those kept.
-- Assumes nothing.
use Rattle.std.specs.Prelude.{Option, None, Some, unwrap_or}
use Prim.Native.Nat.{ℕ, suc, ◌+◌, ◌*◌, ◌-◌, ◌/◌, ◌≤◌, ◌<◌}
use mathlib.Core.Path.{◌≡◌, refl, sym, ap, ◌∙◌}
use mathlib.Core.Bool.{Bool, true, false, cond}
use mathlib.Core.List.{List, [], ◌∷◌, ◌++◌, append_assoc, append-nil}
use native.Mathlib.Numerals.{add-one, add-two, add-three}
use native.Mathlib.Omega.{arith}
use native.Mathlib.Nat.{add-zero}
use lib.Dec.{eqb}
use lib.ListN.{length, get_or, set, take, drop, replicate, length-append, drop_of_length-le}
use lib.Seq.{sets-eq, take_at, length-take-le, get_or-drop, drop-drop}
use borrow.Rule.Slice.PartMut.{put_mid}
use borrow.Author.Tests.{eqb-true, eq-eqb, ne_eqb}
use Rattle.residue.specs.Residues.{residue_by}
use Rattle.residue.specs.declared.Residue.{Residue}
use Rattle.residue.specs.declared.Residue.TheVariants.{True, False, Left}
use Rattle.fields.specs.Widths.{full}
use Rattle.lists.specs.Filters.{Item, test_words, max_tests, item_of}
use Rattle.lists.specs.Words.{item_words, test_list, words_of}
use Rattle.lists.specs.declared.TestWords.{TestWords}
use Rattle.std.specs.Simd.{first_chunks}
use Rattle.slots.proofs.Chunks.{chunk_at}
use Rattle.states.specs.States.{Standing, out, left, keep, join, cut, cut_standing}
use Rattle.slots.specs.Words.{filter_slot}
use Rattle.slots.specs.inner.Words.{items_words, out_words, written_filter, read_items, read_filter}
use Rattle.slots.specs.Asking.{out_mark}
use Rattle.slots.specs.inner.Steps.{over, cleared_from, item, left_of, kept_words, kept_at, finished, Kept}
use Rattle.residue.specs.declared.Test.{Test}

pub put_four : (d : List ℕ) (at k f m v : ℕ) → at + test_words ≤ length d → set (set (set (set d at k) (at + 1) f) (at + 2) m) (at + 3) v ≡ over at (k ∷ f ∷ m ∷ v ∷ []) d
put_four d at k f m v h = rw (add-one at, add-two at, add-three at) (sets-eq (k ∷ f ∷ m ∷ v ∷ []) d at h)

-- ---- zeros behind

pub zeros : (a b : ℕ) → a ≡ b → replicate {A = ℕ} a 0 ≡ replicate {A = ℕ} b 0
zeros a b e = ap (λ (n : ℕ). replicate {A = ℕ} n 0) e

-- ---- out

-- The mark in front, and k zeros in the place of the k words behind it.
out_behind : (d z : List ℕ) (k : ℕ) → k ≡ filter_slot - 1 → length d ≡ k → z ≡ replicate k 0 → put_mid 1 k (out_mark ∷ d) z ≡ out_words
unfolding out_words
out_behind d z k l m e =
    ap (λ (y : List ℕ). out_mark ∷ z ++ y) (drop_of_length-le d (omega arith)) ∙ append-nil (out_mark ∷ z) ∙ ap (λ (y : List ℕ). out_mark ∷ y) (e ∙ zeros k (filter_slot - 1) l)

pub out_after : (d z : List ℕ) → length d ≡ filter_slot → z ≡ replicate (length (set d 0 out_mark) - 1) 0 → put_mid 1 (length (set d 0 out_mark) - 1) (set d 0 out_mark) z ≡ out_words
out_after [] z l e = absurd (omega arith)
out_after (x ∷ d) z l e = out_behind d z (length (set (x ∷ d) 0 out_mark) - 1) (omega arith) (omega arith) e

-- ---- one more test

cut_step : (n : ℕ) (k : Option Test) (t : Item) (ts : List Item) → cut n k (t ∷ ts) ≡ join t.field (left_of n k t) (cut n k ts)
unfolding cut left_of join
cut_step n k t ts = go (eqb t.field n) refl
  where
    go : (b : Bool) → eqb t.field n ≡ b → cond b (join n (residue_by (full n) k t.test) (cut n k ts)) (keep t (cut n k ts)) ≡ join t.field (cond b (residue_by (full n) k t.test) (Left t.test)) (cut n k ts)
    go true e = ap (λ (f : ℕ). join f (residue_by (full n) k t.test) (cut n k ts)) (sym (eqb-true t.field n e))
    go false e = refl

take_over : (e : ℕ) (ws d : List ℕ) → e ≤ length d → take (e + length ws) (over e ws d) ≡ take e d ++ ws
take_over e ws d h = take_at (take e d ++ ws) (drop (e + length ws) d) (e + length ws) (length-append (take e d) ws ∙ ap (λ (n : ℕ). n + length ws) (length-take-le e d h))

finished_keep : (e : ℕ) (d : List ℕ) (t : Item) (x : Standing) → e ≤ length d → finished (e + test_words) (over e (item_words t) d) x ≡ finished e d (keep t x)
unfolding finished keep items_words item_words
finished_keep e d t out h = refl
finished_keep e d t (left ts) h =
    let z = zeros (filter_slot - (e + test_words) - test_words * length ts) (filter_slot - e - test_words * suc (length ts)) (omega arith) in
    ap (λ (r : List ℕ). r ++ (items_words ts ++ replicate {A = ℕ} (filter_slot - (e + test_words) - test_words * length ts) 0)) (take_over e (item_words t) d h) ∙
    append_assoc (take e d) (item_words t) (items_words ts ++ replicate {A = ℕ} (filter_slot - (e + test_words) - test_words * length ts) 0) ∙
    ap (λ (r : List ℕ). take e d ++ r)
    (sym (append_assoc (item_words t) (items_words ts) (replicate {A = ℕ} (filter_slot - (e + test_words) - test_words * length ts) 0)) ∙
    ap (λ (r : List ℕ). item_words t ++ items_words ts ++ r) z)

-- One more test, behind place e: what is finished then is what was finished before it, and a false test makes the filter out.
finished_kept : (e f : ℕ) (d : List ℕ) (r : Residue) (x : Standing) (e' : ℕ) → e ≤ length d → Some e' ≡ kept_at e r → finished e' (kept_words e f r d) x ≡ finished e d (join f r x)
unfolding kept_at kept_words join
finished_kept e f d True x e' h k = ap (λ (o : Option ℕ). finished (unwrap_or o e) d x) k
finished_kept e f d False x e' h k = cc
finished_kept e f d (Left u) x e' h k =
    ap (λ (o : Option ℕ). finished (unwrap_or o e) (over e (item_words (item f u)) d) x) k ∙ finished_keep e d (item f u) x h

finished_out : (e f : ℕ) (d : List ℕ) (r : Residue) (x : Standing) → None ≡ kept_at e r → out_words ≡ finished e d (join f r x)
unfolding kept_at join finished
finished_out e f d True x k = cc
finished_out e f d False x k = refl
finished_out e f d (Left u) x k = cc

kept_le : (e : ℕ) (r : Residue) (e' : ℕ) → Some e' ≡ kept_at e r → e' ≤ e + test_words
unfolding kept_at
kept_le e True e' k = omega (arith, ap (λ (o : Option ℕ). unwrap_or o e) k)
kept_le e False e' k = cc
kept_le e (Left u) e' k = omega (arith, ap (λ (o : Option ℕ). unwrap_or o e) k)

-- ---- the tests in order

finished_start : (d : List ℕ) (x : Standing) → finished 0 d x ≡ written_filter x
unfolding finished written_filter
finished_start d out = refl
finished_start d (left ts) =
    ap (λ (r : List ℕ). items_words ts ++ r) (zeros (filter_slot - 0 - test_words * length ts) (filter_slot - test_words * length ts) (omega arith))

finished_end : (e : ℕ) (d : List ℕ) → length d ≡ filter_slot → cleared_from e d ≡ finished e d (left [])
unfolding finished items_words
finished_end e d h = ap (λ (r : List ℕ). take e d ++ r) (zeros (length d - e) (filter_slot - e - test_words * 0) (omega arith))

-- What a fact leaves of the tests of a filter from number j on.
abbrev rest : ℕ → Option Test → List ℕ → ℕ → Standing
rest n k src j = cut n k (read_items (max_tests - j) (drop (test_words * j) src))

more_left : (j : ℕ) → j < max_tests → max_tests - j ≡ suc (max_tests - (j + 1))
more_left j h = omega arith

head_at : (src : List ℕ) (i : ℕ) → get_or (drop i src) 0 0 ≡ get_or src i 0
head_at src i = get_or-drop i src 0 0 ∙ ap (λ (n : ℕ). get_or src n 0) (add-zero i)

rest_stop : (n : ℕ) (k : Option Test) (src : List ℕ) (j : ℕ) → j < max_tests → get_or src (test_words * j) 0 ≡ 0 → rest n k src j ≡ left []
unfolding read_items cut
rest_stop n k src j h z = rw (more_left j h, eq-eqb (get_or (drop (test_words * j) src) 0 0) 0 (head_at src (test_words * j) ∙ z))

rest_end : (n : ℕ) (k : Option Test) (src : List ℕ) (j : ℕ) → max_tests ≤ j → rest n k src j ≡ left []
unfolding read_items cut
rest_end n k src j h = let z : max_tests - j ≡ 0 = omega arith in rw z

rest_more : (n : ℕ) (k : Option Test) (src : List ℕ) (j : ℕ) → j < max_tests → (get_or src (test_words * j) 0 ≡ 0 → ⊥) → rest n k src j ≡ join (item_of (drop (test_words * j) src)).field (left_of n k (item_of (drop (test_words * j) src))) (rest n k src (j + 1))
unfolding read_items
rest_more n k src j h z =
    let o = test_words * j in
    let e : test_words * (j + 1) ≡ test_words * j + test_words = omega arith in
    rw (more_left j h, ne_eqb (get_or (drop o src) 0 0) 0 (λ (y : get_or (drop o src) 0 0 ≡ 0). z (sym (head_at src o) ∙ y)), e, ← drop-drop test_words (test_words * j) src)
    (cut_step n k (item_of (drop o src)) (read_items (max_tests - (j + 1)) (drop test_words (drop o src))))

-- The words of a test are the first four.
front_words : (ws : List ℕ) → words_of (take test_words ws) ≡ words_of ws
unfolding words_of
front_words [] = refl
front_words (a ∷ []) = refl
front_words (a ∷ b ∷ []) = refl
front_words (a ∷ b ∷ c ∷ []) = refl
front_words (a ∷ b ∷ c ∷ d ∷ ws) = refl

-- What is kept up to place e, finished with what the tests from number j on leave.
unfoldable pub ahead : ℕ → Option Test → List ℕ → ℕ → ℕ → List ℕ → List ℕ
ahead n k src j e d = finished e d (rest n k src j)

module _ (n : ℕ) (k : Option Test) (src : List ℕ) where
  pub ahead_start : (d : List ℕ) → (get_or src 0 0 ≡ out_mark → ⊥) → ahead n k src 0 0 d ≡ written_filter (cut_standing n k (read_filter src))
  unfolding ahead read_filter cut_standing
  ahead_start d h = finished_start d (rest n k src 0) ∙ rw (ne_eqb (get_or src 0 0) out_mark h)

  -- A filter that is out stays out.
  pub ahead_out : get_or src 0 0 ≡ out_mark → out_words ≡ written_filter (cut_standing n k (read_filter src))
  unfolding read_filter cut_standing written_filter
  ahead_out e = rw (eq-eqb (get_or src 0 0) out_mark e)

  -- Number j of the tests, whose words are w.
  module _ (j e : ℕ) (d : List ℕ) (w : TestWords) (one : length d ≡ filter_slot) (more : j < max_tests) (here : w ≡ words_of (drop (test_words * j) src)) where
    abbrev next : Item
    next = item_of (drop (test_words * j) src)

    same_kind : w.kind ≡ get_or src (test_words * j) 0
    unfolding words_of
    same_kind = ap (λ (x : TestWords). x.kind) here ∙ head_at src (test_words * j)

    pub ahead_stop : w.kind ≡ 0 → cleared_from e d ≡ ahead n k src j e d
    unfolding ahead
    ahead_stop z = finished_end e d one ∙ ap (finished e d) (sym (rest_stop n k src j more (sym same_kind ∙ z)))

    module _ (test : w.kind ≡ 0 → ⊥) (within : e ≤ test_words * j) (d' : List ℕ) (r : Residue) (divided : r ≡ left_of n k (item_of (test_list w))) where
      joined : finished e d (join w.field r (rest n k src (j + 1))) ≡ ahead n k src j e d
      unfolding ahead item_of words_of
      joined =
          ap (λ (x : Residue). finished e d (join w.field x (rest n k src (j + 1)))) divided ∙
          ap (λ (x : TestWords). finished e d (join x.field (left_of n k (item_of (test_list x))) (rest n k src (j + 1)))) here ∙
          ap (finished e d) (sym (rest_more n k src j more (λ (z : get_or src (test_words * j) 0 ≡ 0). test (same_kind ∙ z))))

      pub ahead_within : (e' : ℕ) → Kept e w.field r d d' (Some e') → e' ≤ test_words * (j + 1)
      ahead_within e' kept = omega (arith, kept_le e r e' kept.behind)

      pub ahead_turn : (e' : ℕ) → Kept e w.field r d d' (Some e') → ahead n k src (j + 1) e' d' ≡ ahead n k src j e d
      unfolding ahead
      ahead_turn e' kept =
          ap (λ (x : List ℕ). finished e' x (rest n k src (j + 1))) kept.words ∙
          finished_kept e w.field d r (rest n k src (j + 1)) e' (omega arith) kept.behind ∙ joined

      pub ahead_none : Kept e w.field r d d' None → out_words ≡ ahead n k src j e d
      ahead_none kept = finished_out e w.field d r (rest n k src (j + 1)) kept.behind ∙ joined

  pub ahead_end : (j e : ℕ) (d : List ℕ) → length d ≡ filter_slot → max_tests ≤ j → cleared_from e d ≡ ahead n k src j e d
  unfolding ahead
  ahead_end j e d one h = finished_end e d one ∙ ap (finished e d) (sym (rest_end n k src j h))

-- The words of test number j, where the tests are read as chunks.
pub words_at : (src : List ℕ) (chunks : List (List ℕ)) (j : ℕ) → length src ≡ filter_slot → chunks ≡ first_chunks test_words (length src / test_words) src → j < max_tests → words_of (get_or chunks j []) ≡ words_of (drop (test_words * j) src)
words_at src chunks j l e h =
    ap (λ (c : List (List ℕ)). words_of (get_or c j [])) e ∙
    ap words_of (chunk_at test_words (length src / test_words) j src [] (omega arith)) ∙ front_words (drop (test_words * j) src)
