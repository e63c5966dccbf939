-- What stays of a run of words where another part of it changes.
--   part_within, part_kept            a part within the first words sees those alone
--   later, earlier                    what agrees from a place on, or up to a place
--   put_before, put_there, put_behind words put into a lent tail: those before and behind stay
-- Assumes nothing.
use Rattle.std.specs.Prelude.{ℕ, zero, suc, ◌+◌, ◌-◌, ◌≤◌, ◌≡◌, refl, List, [], ◌∷◌, ◌++◌, length, take, drop}
use Rattle.std.proofs.Common.{sym, ap, ◌∙◌, subst, append_assoc, zero-add, arith, length-drop, take-append-drop, take-take, take_at, drop_at, drop-drop, length-take-le}
use borrow.Rule.Slice.PartMut.{mid_of, post_of, put_mid, take_put}
use Rattle.std.proofs.lemmas.List.{drop-append-le}

-- A part that lies within the first m elements does not see the others.
pub part_within : {A : Type 0} (k j m : ℕ) (l : List A) → j + k ≤ m → take k (drop j (take m l)) ≡ take k (drop j l)
part_within k zero m l h = take-take k m l (subst (λ (x : ℕ). x ≤ m) (zero-add k) h)
part_within k (suc j) zero l h = absurd (omega arith)
part_within k (suc j) (suc m) [] h = refl
part_within k (suc j) (suc m) (x ∷ l) h = part_within k j m l (omega arith)

-- What agrees with s on its first m elements has the same parts there.
pub part_kept : {A : Type 0} (k j m : ℕ) (s s' : List A) → j + k ≤ m → take m s' ≡ take m s → take k (drop j s') ≡ take k (drop j s)
part_kept {A} k j m s s' h e =
    sym (part_within k j m s' h) ∙ ap (λ (l : List A). take k (drop j l)) e ∙ part_within k j m s h

-- What agrees from place j on agrees from every later place on.
pub later : {A : Type 0} (j k : ℕ) (a b : List A) → j ≤ k → drop j a ≡ drop j b → drop k a ≡ drop k b
later {A} j k a b h e =
    let split : j + (k - j) ≡ k = omega arith in
    subst (λ (m : ℕ). drop m a ≡ drop m b) split
    (sym (drop-drop (k - j) j a) ∙ ap (λ (l : List A). drop (k - j) l) e ∙ drop-drop (k - j) j b)

-- What agrees up to place k agrees up to every earlier place.
pub earlier : {A : Type 0} (j k : ℕ) (a b : List A) → j ≤ k → take k a ≡ take k b → take j a ≡ take j b
earlier {A} j k a b h e = sym (take-take j k a h) ∙ ap (λ (l : List A). take j l) e ∙ take-take j k b h

-- k words w put in from place a on, in a tail that was lent.
module _ (a k : ℕ) (l w p : List ℕ) (long : length w ≡ k) (room : a + k ≤ length l)
    (put : p ≡ w ++ drop k (mid_of a (length l - a) l)) where
  abbrev put_in : List ℕ
  put_in = put_mid a (length l - a) l p

  -- The old words of the tail that stay.
  abbrev stay : List ℕ
  stay = drop k (mid_of a (length l - a) l) ++ post_of a (length l - a) l

  tail_is : drop a put_in ≡ w ++ stay
  tail_is =
      drop_at (take a l) (p ++ post_of a (length l - a) l) a (length-take-le a l (omega arith))
      ∙ ap (λ (x : List ℕ). x ++ post_of a (length l - a) l) put
      ∙ append_assoc w (drop k (mid_of a (length l - a) l)) (post_of a (length l - a) l)

  pub put_before : take a put_in ≡ take a l
  put_before = take_put a (length l - a) l p (omega arith)

  pub put_there : take k (drop a put_in) ≡ w
  put_there = ap (λ (x : List ℕ). take k x) tail_is ∙ take_at w stay k long

  pub put_behind : drop (a + k) put_in ≡ drop (a + k) l
  put_behind =
      let tail = length-drop a l in
      let part = length-take-le (length l - a) (drop a l) (omega arith) in
      sym (drop-drop k a put_in)
      ∙ ap (λ (x : List ℕ). drop k x) tail_is
      ∙ drop_at w stay k long
      ∙ sym (drop-append-le k (mid_of a (length l - a) l) (post_of a (length l - a) l) (omega arith))
      ∙ ap (λ (x : List ℕ). drop k x) (take-append-drop (length l - a) (drop a l))
      ∙ drop-drop k a l
