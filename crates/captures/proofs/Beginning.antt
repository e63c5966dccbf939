-- What a list's text comes to, by what reading it left.
-- Assumes nothing.
use Rattle.std.specs.Prelude.{ℕ, ◌≡◌, List, length, take, Result, Ok, Err}
use Rattle.std.proofs.Common.{sym, ap, ap₂, ◌∙◌, length-take-le}
use Rattle.refusals.specs.Numbers.{unplaced}
use Rattle.refusals.specs.declared.Refusal.{Refusal}
use Rattle.lists.specs.Refusals.{listed}
use Rattle.text.specs.Text.{words_of, Reads}
use Rattle.text.specs.laws.Reading.{reads_refused, reads_why, reads_accepted, reads_fit, reads_first}
use Rattle.captures.specs.Parts.{begun_with, begun_by}

module _ {t before after : List ℕ} {r : Result ℕ Refusal} (p : Reads t before after r) where
  pub begun_unread : (e : Refusal) → r ≡ Err e → Err (unplaced e) ≡ begun_by t
  unfolding begun_by
  begun_unread e f = let why = reads_why p e f in rw (reads_refused p (f ∙ ap Err why), why)

  pub begun_read : (n : ℕ) → r ≡ Ok n → begun_with (listed (take n after)) n ≡ begun_by t
  unfolding begun_by
  begun_read n e =
      let words : take n after ≡ words_of t = reads_first p n e in
      let count : n ≡ length (words_of t) = sym (length-take-le n after (reads_fit p n e)) ∙ ap length words in
      rw (reads_accepted p n e) (ap₂ (λ (l : List ℕ) (m : ℕ). begun_with (listed l) m) words count)
