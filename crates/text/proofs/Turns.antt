-- What holds whenever the next byte is read, how each byte keeps it, and what it comes to at the end.
--   held p         how many bytes of the item are read at least
--   put ws s       the words ws, then those of the scan
--   Reading        the words read so far and the scan of the bytes left are the scan of the text
use Prim.Native.Nat.{ℕ, ◌+◌, ◌*◌, ◌≤◌, ◌<◌}
use mathlib.Core.Path.{◌≡◌, refl, sym, ap, ◌∙◌}
use mathlib.Core.Bool.{Bool, true, false, cond}
use mathlib.Core.List.{List, [], ◌∷◌, ◌++◌, append-nil}
use native.Mathlib.Numerals.{add-one}
use native.Mathlib.Omega.{arith}
use lib.ListN.{length, take, drop, set, get_or, length-set, take-append-drop, drop_of_length-le}
use lib.Seq.{drop-cons, take-suc-set, drop-set-lt, drop-drop, length-take-le, append_snoc}
use borrow.Author.Tests.{le-ltb, lt-ltb}
use Rattle.std.specs.Prelude.{Option, None, Some, Result, Ok, Err}
use Rattle.refusals.specs.declared.Refusal.{Refusal}
use Rattle.text.specs.Text.{max_text, text_refusal, too_long, readable, words_of, read_of, Reads}
use Rattle.text.specs.inner.Items.{max_items}
use Rattle.text.specs.inner.Steps.{more, step}
use Rattle.text.specs.declared.Step.TheVariants.{Skip, Digit, Word}
use Rattle.text.proofs.Scans.{Scan, after, scan, scan_text}

abbrev pub held : Option ℕ → ℕ
held None = 0
held (Some v) = 1

held_most : (p : Option ℕ) → held p ≤ 1
held_most None = omega arith
held_most (Some v) = omega arith

abbrev pub put : List ℕ → Scan → Scan
put ws s = record { words = ws ++ s.words; right = s.right }

pub record Reading (t before words : List ℕ) (count : ℕ) (place : Option ℕ) (i : ℕ) : Type 0 where
  pub short : length t ≤ max_text
  pub within : i ≤ length t
  pub room : 2 * count + held place ≤ i
  pub long : length words ≡ length before
  pub large : max_items ≤ length before
  pub kept : drop count words ≡ drop count before
  pub rest : scan None t ≡ put (take count words) (scan place (drop i t))

-- Where all bytes are read, or one is wrong, what was stored is the answer.
module _ (t before words : List ℕ) (count : ℕ) (right : Bool) (r : Result ℕ Refusal) where
  comes_to :
      r ≡ cond right (Ok count) (Err text_refusal) →
      length t ≤ max_text → count ≤ length words → drop count words ≡ drop count before →
      scan None t ≡ record { words = take count words; right = right } →
      Reads t before words r
  unfolding too_long readable words_of read_of
  comes_to n s l k e =
      let j = sym (scan_text t) ∙ e in
      let all = ap (λ (x : Scan). x.right) j in
      let these = ap (λ (x : Scan). x.words) j in
      let size = length-take-le count words l in
      record {
        answer = rw (le-ltb _ _ s, all, these, size) n;
        words = rw (le-ltb _ _ s, these, size, ← k, take-append-drop count words);
      }

-- Only inside an item can a byte end it.
none_ends : (b v : ℕ) → step None b ≡ Ok (Word v) → ⊥
unfolding step more
none_ends b v e = grind arith

word_held : (p : Option ℕ) (b v : ℕ) → step p b ≡ Ok (Word v) → held p ≡ 1
word_held None b v e = absurd (none_ends b v e)
word_held (Some u) b v e = refl

-- A byte is wrong for one reason.
wrong_why : (p : Option ℕ) (b : ℕ) (e : Refusal) → step p b ≡ Err e → e ≡ text_refusal
unfolding step more
wrong_why p b e f = grind arith

-- One word more is stored.
module _ (words : List ℕ) (count v : ℕ) where
  store_take : count < length words → take (count + 1) (set words count v) ≡ take count words ++ (v ∷ [])
  store_take h = rw (add-one, take-suc-set words count v)

  store_kept : (before : List ℕ) → drop count words ≡ drop count before → drop (count + 1) (set words count v) ≡ drop (count + 1) before
  store_kept before k =
      drop-set-lt (count + 1) words count v (omega arith) ∙ sym (drop-drop 1 count words) ∙ ap (drop 1) k ∙ drop-drop 1 count before

pub too_long_lem : (t before : List ℕ) → max_text < length t → Reads t before before (Err text_refusal)
unfolding too_long readable words_of read_of
too_long_lem t before h = record { answer = rw (lt-ltb _ _ h); words = rw (lt-ltb _ _ h) }

module _ (t before words : List ℕ) (count : ℕ) (place : Option ℕ) (i : ℕ) (r : Reading t before words count place i) where
  scan_next : i < length t → scan place (drop i t) ≡ after (step place (get_or t i 0)) (λ (q : Option ℕ). scan q (drop (i + 1) t))
  unfolding scan
  scan_next h = rw (add-one, drop-cons t i 0)

  -- No word is stored.
  moved : (q : Option ℕ) → i < length t → scan place (drop i t) ≡ scan q (drop (i + 1) t) → Reading t before words count q (i + 1)
  moved q h e =
      record {
        short = r.short;
        within = omega arith;
        room = omega (arith, held_most q);
        long = r.long;
        large = r.large;
        kept = r.kept;
        rest = rw (r.rest, e);
      }

  pub skipped : i < length t → step place (get_or t i 0) ≡ Ok Skip → Reading t before words count None (i + 1)
  skipped h e = moved None h (rw (scan_next h, e))

  pub spelt : (v : ℕ) → i < length t → step place (get_or t i 0) ≡ Ok (Digit v) → Reading t before words count (Some v) (i + 1)
  spelt v h e = moved (Some v) h (rw (scan_next h, e))

  pub wrong_read : (e : Refusal) → i < length t → step place (get_or t i 0) ≡ Err e → Reads t before words (Err e)
  wrong_read e h f =
      comes_to t before words count false (Err e) (ap Err (wrong_why place (get_or t i 0) e f)) r.short (omega arith) r.kept
      (rw (r.rest, scan_next h, f, append-nil (take count words)))

  -- The same by the refusal's name, which is what `read_items` answers with.
  pub wrong_refused : (e : Refusal) → i < length t → step place (get_or t i 0) ≡ Err e → Reads t before words (Err text_refusal)
  wrong_refused e h f = rw (wrong_why place (get_or t i 0) e f) at (wrong_read e h f)

  pub stored : (v : ℕ) → i < length t → step place (get_or t i 0) ≡ Ok (Word v) → Reading t before (set words count v) (count + 1) None (i + 1)
  stored v h e =
      let one = word_held place (get_or t i 0) v e in
      let here : count < length words = omega arith in
      record {
        short = r.short;
        within = omega arith;
        room = omega arith;
        long = rw (length-set words count v) r.long;
        large = r.large;
        kept = store_kept words count v before r.kept;
        rest = rw (r.rest, scan_next h, e, store_take words count v here, append_snoc);
      }

  -- At the text's end.
  pub ended_apart : length t ≤ i → place ≡ None → Reads t before words (Ok count)
  unfolding scan
  ended_apart h e =
      comes_to t before words count true (Ok count) refl r.short (omega arith) r.kept
      (rw (r.rest, drop_of_length-le t h, e, append-nil (take count words)))

  pub ended_inside : (v : ℕ) → length t ≤ i → place ≡ Some v → Reads t before (set words count v) (Ok (count + 1))
  unfolding scan
  ended_inside v h e =
      let one : held place ≡ 1 = rw e in
      let here : count < length words = omega arith in
      comes_to t before (set words count v) (count + 1) true (Ok (count + 1)) refl r.short (rw (length-set words count v) (omega arith))
      (store_kept words count v before r.kept)
      (rw (r.rest, drop_of_length-le t h, e, store_take words count v here))
