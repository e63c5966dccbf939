-- Every element of a list, and a list that begins another.
--   Each P l            P of every element of l
--   Begins front whole  whole is front and some more behind it
use Rattle.std.specs.Prelude.{ℕ, zero, suc, ◌≤◌, ◌<◌, ◌≡◌, refl, length, get_or}
use Rattle.std.proofs.Common.{arith, not-suc-le-zero, le_of_suc-le-suc, sym, subst, ◌∙◌, ⊎_elim, length-append}
use mathlib.Core.List.Memᴰ
use mathlib.Core.List.{List, [], ◌∷◌, ◌++◌, append_assoc, append-nil, Memᴰ}

abbrev pub Each : {A : Type 0} → (A → Type 0) → List A → Type 0
Each {A} P l = (x : A) → Memᴰ x l → P x

pub record Begins {A : Type 0} (front whole : List A) : Type 0 where
  pub rest : List A
  pub grown : whole ≡ front ++ rest

pub each_nil : {A : Type 0} (P : A → Type 0) → Each P []
each_nil P x m = absurd (Memᴰ.not-nil m)

pub each_cons : {A : Type 0} {P : A → Type 0} {x : A} {l : List A} → P x → Each P l → Each P (x ∷ l)
each_cons {A} {P} {x} {l} p q y m = ⊎_elim (λ (e : y ≡ x). subst P (sym e) p) (q y) (Memᴰ.cases_cons m)

pub each_head : {A : Type 0} {P : A → Type 0} {x : A} {l : List A} → Each P (x ∷ l) → P x
each_head {x} all = all x (Memᴰ.head refl)

pub each_tail : {A : Type 0} {P : A → Type 0} {x : A} {l : List A} → Each P (x ∷ l) → Each P l
each_tail all y m = all y (Memᴰ.tail m)

pub each_append : {A : Type 0} {P : A → Type 0} (a b : List A) → Each P a → Each P b → Each P (a ++ b)
each_append a b p q x m = ⊎_elim (p x) (q x) (Memᴰ.append_cases a m)

pub each_left : {A : Type 0} {P : A → Type 0} (a b : List A) → Each P (a ++ b) → Each P a
each_left a b all x m = all x (Memᴰ.append_left b m)

pub each_right : {A : Type 0} {P : A → Type 0} (a b : List A) → Each P (a ++ b) → Each P b
each_right a b all x m = all x (Memᴰ.append_right a m)

pub get_or_mem : {A : Type 0} (l : List A) (i : ℕ) (d : A) → i < length l → Memᴰ (get_or l i d) l
get_or_mem [] i d h = absurd (not-suc-le-zero h)
get_or_mem (x ∷ l) zero d h = Memᴰ.head refl
get_or_mem (x ∷ l) (suc i) d h = Memᴰ.tail (get_or_mem l i d (le_of_suc-le-suc h))

-- A list that begins another.

pub begins_refl : {A : Type 0} (l : List A) → Begins l l
begins_refl l = record { rest = []; grown = sym (append-nil l) }

pub begins_append : {A : Type 0} (l more : List A) → Begins l (l ++ more)
begins_append l more = record { rest = more; grown = refl }

pub begins_trans : {A : Type 0} {a b c : List A} → Begins a b → Begins b c → Begins a c
begins_trans {A} {a} {b} {c} p q =
    record { rest = p.rest ++ q.rest; grown = q.grown ∙ rw p.grown (append_assoc a p.rest q.rest) }

pub begins_length : {A : Type 0} {a b : List A} → Begins a b → length a ≤ length b
begins_length {A} {a} {b} p = rw p.grown (simp length-append (omega arith))
