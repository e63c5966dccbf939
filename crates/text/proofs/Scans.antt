-- Reading byte by byte gives the numbers of the text's items, and says whether all of them are numbers.
--   Scan           the words that are still to come, and whether no item is wrong
--   scan p bs      what the bytes give from the place on
--   judged is      what the items give
--   scan_text      from the text's start these are the same
use Prim.Native.Nat.{ℕ, ◌+◌, ◌-◌, ◌*◌, ◌≤◌}
use mathlib.Core.Path.{◌≡◌, refl, sym, ap, ◌∙◌}
use mathlib.Core.Bool.{Bool, true, false, ◌&&◌, and_assoc, and-false, and-eq-true_iff}
use mathlib.Core.List.{List, [], ◌∷◌, ◌++◌, append_assoc, append-nil}
use native.Mathlib.Omega.{arith}
use native.Mathlib.Nat.{le_refl}
use lib.Dec.{leb}
use borrow.Author.Tests.{leb-false, lt-leb}
use Rattle.std.specs.Prelude.{Option, None, Some, Result, Ok, Err}
use Rattle.refusals.specs.declared.Refusal.{Refusal}
use Rattle.text.specs.Text.{max_word, separates, runs, onto, nonempty, items, is_digit, digits_only, spelled, decimal, is_number, all_numbers, numbers}
use Rattle.text.specs.inner.Steps.{more, step}
use Rattle.text.specs.declared.Step.{Step}
use Rattle.text.specs.declared.Step.TheVariants.{Skip, Digit, Word}

pub record Scan : Type 0 where
  pub words : List ℕ
  pub right : Bool

abbrev pub push : ℕ → Scan → Scan
push v s = record { words = v ∷ s.words; right = s.right }

abbrev pub wrong : Scan
wrong = record { words = []; right = false }

abbrev pub finish : Option ℕ → Scan
finish None = record { words = []; right = true }
finish (Some v) = record { words = v ∷ []; right = true }

-- `on` is what the bytes behind this one give from a place on.
abbrev pub after : Result Step Refusal → (Option ℕ → Scan) → Scan
after (Ok Skip) on = on None
after (Ok (Digit v)) on = on (Some v)
after (Ok (Word v)) on = push v (on None)
after (Err r) on = wrong

unfoldable pub scan : Option ℕ → List ℕ → Scan
scan p [] = finish p
scan p (b ∷ bs) = after (step p b) (λ (q : Option ℕ). scan q bs)

abbrev pub judged : List (List ℕ) → Scan
judged is = record { words = numbers is; right = all_numbers is }

pub on_bool : {A : Type 0} (t : Bool) → (t ≡ true → A) → (t ≡ false → A) → A
on_bool true f g = f refl
on_bool false f g = g refl

judged_number : (item : List ℕ) (rest : List (List ℕ)) → is_number item ≡ true → judged (item ∷ rest) ≡ push (decimal item) (judged rest)
unfolding numbers all_numbers
judged_number item rest e = rw e

judged_wrong : (item : List ℕ) (rest : List (List ℕ)) → is_number item ≡ false → judged (item ∷ rest) ≡ wrong
unfolding numbers all_numbers
judged_wrong item rest e = rw e

-- The first run of a text and the runs behind it.
abbrev first : List (List ℕ) → List ℕ
first [] = []
first (r ∷ rs) = r

abbrev others : List (List ℕ) → List (List ℕ)
others [] = []
others (r ∷ rs) = rs

onto_first : (b : ℕ) (rs : List (List ℕ)) → onto b rs ≡ (b ∷ first rs) ∷ others rs
unfolding onto
onto_first b [] = refl
onto_first b (r ∷ rs) = refl

-- A run with a byte in it is kept.
nonempty_kept : (p : List ℕ) (b : ℕ) (r : List ℕ) (rs : List (List ℕ)) →
    nonempty ((p ++ (b ∷ []) ++ r) ∷ rs) ≡ (p ++ (b ∷ []) ++ r) ∷ nonempty rs
unfolding nonempty
nonempty_kept [] b r rs = refl
nonempty_kept (a ∷ p) b r rs = refl

spelled_append : (v : ℕ) (p q : List ℕ) → spelled v (p ++ q) ≡ spelled (spelled v p) q
unfolding spelled
spelled_append v [] q = refl
spelled_append v (b ∷ p) q = spelled_append (v * 10 + (b - 48)) p q

spelled_grows : (v : ℕ) (q : List ℕ) → v ≤ spelled v q
unfolding spelled
spelled_grows v [] = le_refl v
spelled_grows v (b ∷ q) = omega (arith, spelled_grows (v * 10 + (b - 48)) q)

digits_append : (p q : List ℕ) → digits_only (p ++ q) ≡ digits_only p && digits_only q
unfolding digits_only
digits_append [] q = refl
digits_append (b ∷ p) q = ap (λ (t : Bool). is_digit b && t) (digits_append p q) ∙ sym (and_assoc (is_digit b) (digits_only p) (digits_only q))

value_grows : (p r : List ℕ) → decimal p ≤ decimal (p ++ r)
unfolding decimal
value_grows p r = rw (spelled_append 0 p r) (spelled_grows (spelled 0 p) r)

-- One digit more.
value_more : (p : List ℕ) (b : ℕ) → decimal (p ++ (b ∷ [])) ≡ decimal p * 10 + (b - 48)
unfolding decimal spelled
value_more p b = spelled_append 0 p (b ∷ [])

number_none : is_number [] ≡ true
unfolding is_number digits_only decimal spelled
number_none = refl

-- What makes an item no number, and what keeps it one.
number_digits : (p : List ℕ) → is_number p ≡ true → digits_only p ≡ true
unfolding is_number
number_digits p e = ((and-eq-true_iff (digits_only p) (leb (decimal p) max_word)).0 e).0

number_more : (p : List ℕ) (b : ℕ) → is_number p ≡ true → is_digit b ≡ true → leb (decimal p * 10 + (b - 48)) max_word ≡ true →
    is_number (p ++ (b ∷ [])) ≡ true
unfolding is_number digits_only
number_more p b e d l = rw (digits_append p (b ∷ []), number_digits p e, d, value_more p b, l)

digits_wrong : (p : List ℕ) (b : ℕ) (r : List ℕ) → is_digit b ≡ false → is_number (p ++ (b ∷ []) ++ r) ≡ false
unfolding is_number digits_only
digits_wrong p b r d =
    rw (append_assoc p (b ∷ []) r, digits_append p (b ∷ r), d, and-false (digits_only p))

value_wrong : (p : List ℕ) (b : ℕ) (r : List ℕ) → leb (decimal p * 10 + (b - 48)) max_word ≡ false → is_number (p ++ (b ∷ []) ++ r) ≡ false
unfolding is_number
value_wrong p b r l =
    let grows : decimal (p ++ (b ∷ [])) ≤ decimal (p ++ (b ∷ []) ++ r) = value_grows (p ++ (b ∷ [])) r in
    let over = leb-false (decimal p * 10 + (b - 48)) max_word l in
    let big : leb (decimal (p ++ (b ∷ []) ++ r)) max_word ≡ false = lt-leb (decimal (p ++ (b ∷ []) ++ r)) max_word (omega (arith, value_more p b)) in
    rw (big, and-false (digits_only (p ++ (b ∷ []) ++ r)))

-- The item of the bytes read so far and the rest of its run is judged as the scan judges it, from its next byte on.
abbrev Inner : List ℕ → Type 0
Inner bs =
    (p : List ℕ) (b : ℕ) → is_number (p ++ (b ∷ [])) ≡ true →
    scan (Some (decimal (p ++ (b ∷ [])))) bs ≡ judged (nonempty ((p ++ (b ∷ []) ++ first (runs bs)) ∷ others (runs bs)))

-- One byte that is no separator, behind the bytes p of an item that are a number, or no bytes.
module _ (bs : List ℕ) (ih : Inner bs) (p : List ℕ) (b : ℕ) (n : is_number p ≡ true) where
  item_byte :
      after (more (decimal p) b) (λ (q : Option ℕ). scan q bs) ≡
      judged (nonempty ((p ++ (b ∷ []) ++ first (runs bs)) ∷ others (runs bs)))
  unfolding more
  item_byte =
      rw (nonempty_kept p b (first (runs bs)) (others (runs bs)))
      (on_bool (is_digit b)
      (λ (d : is_digit b ≡ true).
      on_bool (leb (decimal p * 10 + (b - 48)) max_word)
      (λ (l : leb (decimal p * 10 + (b - 48)) max_word ≡ true).
      rw (d, l, ← value_more p b, ih p b (number_more p b n d l), nonempty_kept p b (first (runs bs)) (others (runs bs))))
      (λ (l : leb (decimal p * 10 + (b - 48)) max_word ≡ false).
      rw (d, l, judged_wrong _ (nonempty (others (runs bs))) (value_wrong p b (first (runs bs)) l))))
      (λ (d : is_digit b ≡ false). rw (d, judged_wrong _ (nonempty (others (runs bs))) (digits_wrong p b (first (runs bs)) d))))

scan_none : scan None [] ≡ judged (items [])
unfolding scan runs nonempty items numbers all_numbers
scan_none = refl

inner_end : Inner []
unfolding scan runs nonempty numbers all_numbers
inner_end p b n =
    rw (nonempty_kept p b [] [], append-nil (p ++ (b ∷ [])), judged_number (p ++ (b ∷ [])) (nonempty []) n)

module _ (b : ℕ) (bs : List ℕ) where
  blank_apart : separates b ≡ true → scan None bs ≡ judged (items bs) → scan None (b ∷ bs) ≡ judged (items (b ∷ bs))
  unfolding scan runs items nonempty step
  blank_apart s h = rw s h

  blank_inside : separates b ≡ true → scan None bs ≡ judged (items bs) → (p : List ℕ) (a : ℕ) → is_number (p ++ (a ∷ [])) ≡ true →
      scan (Some (decimal (p ++ (a ∷ [])))) (b ∷ bs) ≡ judged (nonempty ((p ++ (a ∷ []) ++ first (runs (b ∷ bs))) ∷ others (runs (b ∷ bs))))
  unfolding scan runs items step
  blank_inside s h p a n =
      rw (s, nonempty_kept p a [] (runs bs), append-nil (p ++ (a ∷ [])), judged_number (p ++ (a ∷ [])) (nonempty (runs bs)) n, h)

  byte_apart : separates b ≡ false → Inner bs → scan None (b ∷ bs) ≡ judged (items (b ∷ bs))
  unfolding scan runs items step decimal spelled
  byte_apart s h = rw (s, onto_first b (runs bs)) (item_byte bs h [] b number_none)

  byte_inside : separates b ≡ false → Inner bs → (p : List ℕ) (a : ℕ) → is_number (p ++ (a ∷ [])) ≡ true →
      scan (Some (decimal (p ++ (a ∷ [])))) (b ∷ bs) ≡ judged (nonempty ((p ++ (a ∷ []) ++ first (runs (b ∷ bs))) ∷ others (runs (b ∷ bs))))
  unfolding scan runs step
  byte_inside s h p a n =
      rw (s, onto_first b (runs bs), ← append_assoc (p ++ (a ∷ [])) (b ∷ []) (first (runs bs)))
      (item_byte bs h (p ++ (a ∷ [])) b n)

scan_both : (bs : List ℕ) → (scan None bs ≡ judged (items bs)) × Inner bs
unfolding scan runs items
scan_both [] = (scan_none, inner_end)
scan_both (b ∷ bs) =
    let ih = scan_both bs in (
      on_bool (separates b) (λ (s : separates b ≡ true). blank_apart b bs s ih.0) (λ (s : separates b ≡ false). byte_apart b bs s ih.1),
      λ (p : List ℕ) (a : ℕ) (n : is_number (p ++ (a ∷ [])) ≡ true).
          on_bool (separates b) (λ (s : separates b ≡ true). blank_inside b bs s ih.0 p a n) (λ (s : separates b ≡ false). byte_inside b bs s ih.1 p a n),
    )

pub scan_text : (t : List ℕ) → scan None t ≡ judged (items t)
scan_text t = (scan_both t).0
