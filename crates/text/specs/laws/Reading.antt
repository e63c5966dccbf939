-- What the definitions of a text come to, in plain words.
--   items_separator    a separator in front of a text makes no item
--   items_run          a run of other bytes with a separator behind it is an item, and the items of the rest follow
--   items_last         so is a run at the text's end
--   reads_one          one promise allows one outcome
--   reads_refused      a refused text is not readable
--   reads_why          a text is refused with 14 alone
--   reads_accepted     a text whose words are counted is readable
--   reads_fit          the words that an answer counts lie within the words lent
--   reads_first        and there they stand first
--   tried              the edges of refusal 14, one list of cases
use Rattle.std.specs.Prelude.{ℕ, ◌≤◌, ◌≡◌, refl, Bool, true, false, cond, not, ◌&&◌, List, [], ◌∷◌, ◌++◌, length, take, replicate, Result, Ok, Err}
use Rattle.std.proofs.Common.{sym, ap, ◌∙◌, arith, length-append, take_at}
use Rattle.std.proofs.Math.Bool.{and-eq-true_iff}
use Rattle.std.proofs.lemmas.Bool.{not-true}
use Rattle.refusals.specs.declared.Refusal.{Refusal}
use Rattle.text.specs.Text.{separates, onto, runs, nonempty, items, is_digit, digits_only, spelled, decimal, is_number, all_numbers, numbers, too_long, readable, words_of, text_refusal, read_of, Reads}

-- No byte of the run is a separator.
unfoldable pub unbroken : List ℕ → Bool
unbroken [] = true
unbroken (b ∷ r) = not (separates b) && unbroken r

runs_run : (r : List ℕ) (s : ℕ) (t : List ℕ) → unbroken r ≡ true → separates s ≡ true → runs (r ++ (s ∷ t)) ≡ r ∷ runs t
unfolding runs onto unbroken
runs_run [] s t u e = rw e
runs_run (b ∷ r) s t u e =
    let parts = (and-eq-true_iff (not (separates b)) (unbroken r)).0 u in
    rw (not-true (separates b) parts.0, runs_run r s t parts.1 e)

runs_last : (r : List ℕ) → unbroken r ≡ true → runs r ≡ r ∷ []
unfolding runs onto unbroken
runs_last [] u = refl
runs_last (b ∷ r) u =
    let parts = (and-eq-true_iff (not (separates b)) (unbroken r)).0 u in
    rw (not-true (separates b) parts.0, runs_last r parts.1)

pub items_separator : (s : ℕ) (t : List ℕ) → separates s ≡ true → items (s ∷ t) ≡ items t
unfolding items runs nonempty
items_separator s t e = rw e

pub items_run : (b : ℕ) (r : List ℕ) (s : ℕ) (t : List ℕ) → unbroken (b ∷ r) ≡ true → separates s ≡ true →
    items ((b ∷ r) ++ (s ∷ t)) ≡ (b ∷ r) ∷ items t
unfolding items nonempty
items_run b r s t u e = rw (runs_run (b ∷ r) s t u e)

pub items_last : (b : ℕ) (r : List ℕ) → unbroken (b ∷ r) ≡ true → items (b ∷ r) ≡ (b ∷ r) ∷ []
unfolding items nonempty
items_last b r u = rw (runs_last (b ∷ r) u)

pub reads_one : (t before : List ℕ) {a b : List ℕ} {r s : Result ℕ Refusal} → Reads t before a r → Reads t before b s → (a ≡ b) × (r ≡ s)
reads_one t before {r = r} {s = s} p q = (p.words ∙ sym q.words, p.answer ∙ sym q.answer)

refused_by : (a : Bool) (m : ℕ) (r : Result ℕ Refusal) → r ≡ cond a (Ok m) (Err text_refusal) → r ≡ Err text_refusal → a ≡ false
refused_by true m r p e = cc
refused_by false m r p e = refl

why_refused : (a : Bool) (m : ℕ) (r : Result ℕ Refusal) (e : Refusal) → r ≡ cond a (Ok m) (Err text_refusal) → r ≡ Err e → e ≡ text_refusal
why_refused true m r e p f = cc
why_refused false m r e p f = cc

counted_by : (a : Bool) (m n : ℕ) (r : Result ℕ Refusal) → r ≡ cond a (Ok m) (Err text_refusal) → r ≡ Ok n → (a ≡ true) × (m ≡ n)
counted_by true m n r p e = (refl, cc)
counted_by false m n r p e = cc

module _ {t before after : List ℕ} {r : Result ℕ Refusal} (p : Reads t before after r) where
  pub reads_refused : r ≡ Err text_refusal → readable t ≡ false
  unfolding read_of
  reads_refused e = refused_by (readable t) (length (words_of t)) r p.answer e

  pub reads_why : (e : Refusal) → r ≡ Err e → e ≡ text_refusal
  unfolding read_of
  reads_why e f = why_refused (readable t) (length (words_of t)) r e p.answer f

  module _ (n : ℕ) (e : r ≡ Ok n) where
    counted_so : (readable t ≡ true) × (length (words_of t) ≡ n)
    unfolding read_of
    counted_so = counted_by (readable t) (length (words_of t)) n r p.answer e

    pub reads_accepted : readable t ≡ true
    reads_accepted = counted_so.0

    pub reads_fit : n ≤ length after
    reads_fit = omega (arith, counted_so.1, simp length-append at (ap length p.words))

    pub reads_first : take n after ≡ words_of t
    reads_first = ap (take n) p.words ∙ take_at _ _ n counted_so.1

-- ` 007\n4294967295 ` has two words; 4294967296, a tab, a carriage return and a sign are refused; no text and blank text are the empty list.
abbrev pub Tried : Type 0
Tried =
    (read_of (32 ∷ 48 ∷ 48 ∷ 55 ∷ 10 ∷ 10 ∷ 52 ∷ 50 ∷ 57 ∷ 52 ∷ 57 ∷ 54 ∷ 55 ∷ 50 ∷ 57 ∷ 53 ∷ 32 ∷ []) ≡ Ok 2) ×
    (words_of (32 ∷ 48 ∷ 48 ∷ 55 ∷ 10 ∷ 10 ∷ 52 ∷ 50 ∷ 57 ∷ 52 ∷ 57 ∷ 54 ∷ 55 ∷ 50 ∷ 57 ∷ 53 ∷ 32 ∷ []) ≡ 7 ∷ 4294967295 ∷ []) ×
    (read_of (52 ∷ 50 ∷ 57 ∷ 52 ∷ 57 ∷ 54 ∷ 55 ∷ 50 ∷ 57 ∷ 54 ∷ []) ≡ Err text_refusal) ×
    (read_of (49 ∷ 9 ∷ 50 ∷ []) ≡ Err text_refusal) ×
    (read_of (49 ∷ 13 ∷ 10 ∷ []) ≡ Err text_refusal) ×
    (read_of (43 ∷ 49 ∷ []) ≡ Err text_refusal) ×
    (read_of [] ≡ Ok 0) ×
    (read_of (32 ∷ 10 ∷ 32 ∷ []) ≡ Ok 0) ×
    (read_of (replicate 30 48) ≡ Ok 1) ×
    (read_of (replicate 16384 32) ≡ Ok 0) ×
    (read_of (replicate 16385 32) ≡ Err text_refusal)

pub tried : Tried
unfolding read_of readable too_long words_of all_numbers numbers items nonempty runs onto separates is_number digits_only is_digit decimal spelled
tried = (refl, refl, refl, refl, refl, refl, refl, refl, refl, refl, refl)
