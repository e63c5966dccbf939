-- A table's records where some of its words change.
--   record_kept                          records before a place see only the words up to it
--   next_same, next_other, next_behind   a next number that is put in changes its record alone
use Prim.Native.Nat.{ℕ, ◌+◌, ◌*◌, ◌-◌, ◌≤◌, ◌<◌}
use native.Mathlib.Omega.{arith}
use Rattle.std.specs.Prelude.{◌≡◌, Bool, drop, set}
use Rattle.std.proofs.Math.Path.{refl, ap, subst}
use Rattle.std.proofs.Common.{sym, ◌∙◌}
use Rattle.std.proofs.Math.Bool.{true, false}
use mathlib.Core.List.{List}
use Rattle.std.proofs.Math.Arith.{lt_of_le-ne}
use Rattle.std.proofs.Math.Dec.{ltb}
use Rattle.std.proofs.Math.ListN.{take}
use Rattle.std.proofs.Math.Seq.{drop-set-lt, take-set-le, take-set-lt}
use Rattle.std.proofs.lemmas.List.{drop-set-add}
use borrow.Author.Tests.{ltb-true, ltb-false}
use Rattle.residue.specs.declared.Outcome.{Outcome}
use Rattle.words.specs.laws.Lending.{part_kept}
use Rattle.tables.specs.Tables.{record_words, next_at}
use Rattle.tables.specs.inner.Records.{record_at, with_next}
use Rattle.tables.proofs.laws.Layout.{next_within}

pub record_kept : (used i : ℕ) (t t' : List ℕ) → i < used → take (record_words * used) t' ≡ take (record_words * used) t → record_at t' i ≡ record_at t i
unfolding record_at
record_kept used i t t' h e = part_kept record_words (record_words * i) (record_words * used) t t' (omega arith) e

module _ (n : ℕ) (o : Outcome) (v : ℕ) (t : List ℕ) where
  pub next_same : record_at (with_next n o v t) n ≡ set (record_at t n) (next_at o) v
  unfolding record_at with_next
  next_same =
      ap (λ (l : List ℕ). take record_words l) (drop-set-add (record_words * n) t (next_at o) v)
      ∙ take-set-lt record_words (drop (record_words * n) t) (next_at o) v (next_within o)

  -- A record before it ends before the word, and one behind it begins behind the word.
  pub next_other : (i : ℕ) → (i ≡ n → ⊥) → record_at (with_next n o v t) i ≡ record_at t i
  unfolding record_at with_next
  next_other i ne = go (ltb i n) refl
    where
      go : (b : Bool) → ltb i n ≡ b → take record_words (drop (record_words * i) (set t (record_words * n + next_at o) v)) ≡ take record_words (drop (record_words * i) t)
      go true e =
          let k : ℕ = record_words * n + next_at o - record_words * i in
          let below : i < n = ltb-true i n e in
          let split : record_words * n + next_at o ≡ record_words * i + k = omega arith in
          let far : record_words ≤ k = omega arith in
          subst (λ (p : ℕ). take record_words (drop (record_words * i) (set t p v)) ≡ take record_words (drop (record_words * i) t)) (sym split)
          (ap (λ (l : List ℕ). take record_words l) (drop-set-add (record_words * i) t k v) ∙ take-set-le record_words (drop (record_words * i) t) k v far)
      go false e =
          let more : n < i = lt_of_le-ne (ltb-false i n e) (λ q. ne (sym q)) in
          let inside = next_within o in
          ap (λ (l : List ℕ). take record_words l) (drop-set-lt (record_words * i) t (record_words * n + next_at o) v (omega arith))

  pub next_behind : (k : ℕ) → n < k → drop (record_words * k) (with_next n o v t) ≡ drop (record_words * k) t
  unfolding with_next
  next_behind k h =
      let inside = next_within o in
      drop-set-lt (record_words * k) t (record_words * n + next_at o) v (omega arith)
