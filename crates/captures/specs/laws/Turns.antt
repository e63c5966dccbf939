-- A replay of the bytes at hand, one turn after the other.
--   turn              a record and those behind it
--   skip_part         bytes that are left of a record are passed
--   open_turn         the file's header is taken
--   header_turn       a record's header is taken, with what the record counts
--   frame_turn        a whole record is taken
--   wait-header, wait-frame   a record waits for more bytes
--   short_tallied, long_tallied, frame_tallied   what a record counts
-- Assumes nothing.
use Prim.Native.Nat.{ℕ, zero, suc, ◌+◌, ◌-◌, ◌≤◌, ◌<◌}
use Rattle.std.specs.Prelude.{◌≡◌, Bool, ◌||◌, List, []}
use Rattle.std.proofs.Math.Path.{refl, sym, ap}
use Rattle.std.proofs.Common.{◌∙◌, drop-drop}
use Rattle.std.proofs.Math.Bool.{true, false, cond}
use native.Mathlib.Omega.{arith}
use Rattle.std.proofs.lemmas.Bool.Decides.{nat_tests}
use borrow.Author.Tests.{lt-ltb, le-ltb, le-leb, lt-leb}
use Rattle.std.proofs.Math.Dec.{ltb}
use Rattle.std.proofs.Math.ListN.{length, drop, length-drop}
use Rattle.fields.specs.Ethernet.{max_frame}
use Rattle.fields.specs.Fields.{field}
use Rattle.lists.specs.Filters.{Filter}
use Rattle.lists.specs.Ranks.{match_set}
use Rattle.refusals.specs.Numbers.{unplaced}
use Rattle.refusals.specs.declared.Refusal.TheVariants.{Capture}
use Rattle.captures.specs.Files.{file_header, record_header, order_of, linked, captured, original, record_bytes, cut, frame_of}
use Rattle.captures.specs.Replay.{next_count, short_at, long_at, count_up, counted, short, long, tallied, numbered}
use Rattle.captures.specs.Parts.{amid, Paused, paused, passes, halted, records_to, within, ran}
use Rattle.captures.specs.inner.Steps.{opened}
use Rattle.captures.specs.declared.Order.{Order}
use Rattle.captures.specs.declared.Numbered.{Numbered}
use Rattle.captures.specs.declared.Stand.TheVariants.{Start, Refusing}

-- The same truth of both, both less by n.
less_both : (a b n : ℕ) → n ≤ a → n ≤ b → ltb (a - n) (b - n) ≡ ltb a b
less_both a b n h k = grind (arith, nat_tests)

-- The record's header is not there, or its frame is not.
pub passes_header : (o : Order) (s : List ℕ) → length s < record_header → passes o s ≡ false
unfolding passes
passes_header o s h = rw (lt-leb record_header (length s) h)

pub passes_so : (o : Order) (s : List ℕ) → record_header ≤ length s → passes o s ≡ (short o s || long o s)
unfolding passes
passes_so o s h = rw (le-leb record_header (length s) h)

pub cut_so : (o : Order) (s : List ℕ) → length s < record_bytes o s → cut o s ≡ true
unfolding cut
cut_so o s h = lt-ltb (length s) (record_bytes o s) h

pub cut_not : (o : Order) (s : List ℕ) → record_bytes o s ≤ length s → cut o s ≡ false
unfolding cut
cut_not o s h = le-ltb (length s) (record_bytes o s) h

module _ (fs : List Filter) where
  pub stays : (o : Order) (k : ℕ) (ts s : List ℕ) (x : Paused) → length s < record_header → cond (cut o s) (halted fs o k ts s) x ≡ paused (amid o 0 k) ts s
  unfolding halted
  stays o k ts s x h = rw (cut_so o s (omega (arith, h)), passes_header o s h)

  -- So many records as bytes are enough.
  pub fuel : (n m : ℕ) (o : Order) (k : ℕ) (ts s : List ℕ) → length s ≤ n → length s ≤ m → records_to n fs o k ts s ≡ records_to m fs o k ts s
  unfolding records_to
  fuel zero zero o k ts s h l = refl
  fuel zero (suc m) o k ts s h l = sym (stays o k ts s _ (omega arith))
  fuel (suc n) zero o k ts s h l = stays o k ts s _ (omega arith)
  fuel (suc n) (suc m) o k ts s h l =
      let rest = drop (record_bytes o s) s in
      let less : length rest ≡ length s - record_bytes o s = length-drop (record_bytes o s) s in
      ap (λ (p : Paused). cond (cut o s) (halted fs o k ts s) p)
      (fuel n m o (next_count k) (tallied fs o s ts) rest (omega (arith, less, h)) (omega (arith, less, l)))

  -- A record and those behind it.
  pub turn : (o : Order) (k : ℕ) (ts s : List ℕ) →
      records_to (length s) fs o k ts s ≡
      cond (cut o s) (halted fs o k ts s)
      (records_to (length (drop (record_bytes o s) s)) fs o (next_count k) (tallied fs o s ts) (drop (record_bytes o s) s))
  unfolding records_to
  turn o k ts s =
      let rest = drop (record_bytes o s) s in
      let less : length rest ≡ length s - record_bytes o s = length-drop (record_bytes o s) s in
      fuel (length s) (suc (length s)) o k ts s (omega arith) (omega arith)
      ∙ ap (λ (p : Paused). cond (cut o s) (halted fs o k ts s) p)
      (fuel (length s) (length rest) o (next_count k) (tallied fs o s ts) rest (omega (arith, less)) (omega arith))

  -- With nothing to skip.
  pub within_none : (o : Order) (k : ℕ) (ts s : List ℕ) → within fs o 0 k ts s ≡ records_to (length s) fs o k ts s
  unfolding within
  within_none o k ts s = rw (le-ltb (length s) 0 (omega arith))

  pub skip_part : (o : Order) (skip k n : ℕ) (ts s : List ℕ) → n ≤ skip → n ≤ length s →
      within fs o skip k ts s ≡ within fs o (skip - n) k ts (drop n s)
  unfolding within
  skip_part o skip k n ts s h l =
      let rest : length (drop n s) ≡ length s - n = length-drop n s in
      let same : ltb (length s - n) (skip - n) ≡ ltb (length s) skip = less_both (length s) skip n l h in
      let left : skip - n - (length s - n) ≡ skip - length s = omega arith in
      let both : n + (skip - n) ≡ skip = omega arith in
      rw (drop-drop (skip - n) n s, both, rest, same, left)

  -- The file's header is taken.
  opened_turn : (b : Bool) (o : Order) (ts s : List ℕ) →
      cond b (within fs o file_header 0 ts s) (paused (Refusing (numbered (unplaced Capture))) ts []) ≡
      cond b (within fs o 0 0 ts (drop file_header s)) (paused (Refusing (numbered (unplaced Capture))) ts []) →
      cond b (within fs o file_header 0 ts s) (paused (Refusing (numbered (unplaced Capture))) ts []) ≡ ran fs (cond b (amid o 0 0) (Refusing (numbered (unplaced Capture)))) ts (drop file_header s)
  unfolding ran
  opened_turn true o ts s e = e
  opened_turn false o ts s e = refl

  pub open_turn : (ts s : List ℕ) → file_header ≤ length s → ran fs Start ts s ≡ ran fs (opened s) ts (drop file_header s)
  unfolding ran opened
  open_turn ts s h =
      let skipped : within fs (order_of s) file_header 0 ts s ≡ within fs (order_of s) 0 0 ts (drop file_header s) = skip_part (order_of s) file_header 0 file_header ts s (omega arith) h in
      rw (le-ltb (length s) file_header h)
      (opened_turn (linked s) (order_of s) ts s (ap (λ (p : Paused). cond (linked s) p (paused (Refusing (numbered (unplaced Capture))) ts [])) skipped))

  pub skip_turn : (o : Order) (skip k n : ℕ) (ts s : List ℕ) → n ≤ skip → n ≤ length s → ran fs (amid o skip k) ts s ≡ ran fs (amid o (skip - n) k) ts (drop n s)
  unfolding ran
  skip_turn = skip_part

  pub passed_turn : (o : Order) (k : ℕ) (ts s : List ℕ) → passes o s ≡ true →
      records_to (length s) fs o k ts s ≡ within fs o (record_bytes o s) (next_count k) (tallied fs o s ts) s
  unfolding within halted cut
  passed_turn o k ts s e = turn o k ts s ∙ rw e

  -- A record's header is taken.
  pub header_turn : (o : Order) (k : ℕ) (ts s : List ℕ) → record_header ≤ length s → passes o s ≡ true →
      ran fs (amid o 0 k) ts s ≡ ran fs (amid o (captured o s) (next_count k)) (tallied fs o s ts) (drop record_header s)
  unfolding ran
  header_turn o k ts s h e =
      let left : record_bytes o s - record_header ≡ captured o s = omega arith in
      within_none o k ts s ∙ passed_turn o k ts s e
      ∙ skip_part o (record_bytes o s) (next_count k) record_header (tallied fs o s ts) s (omega arith) h
      ∙ ap (λ (c : ℕ). within fs o c (next_count k) (tallied fs o s ts) (drop record_header s)) left

  -- A whole record is taken.
  pub frame_turn : (o : Order) (k : ℕ) (ts s : List ℕ) → record_bytes o s ≤ length s →
      ran fs (amid o 0 k) ts s ≡ ran fs (amid o 0 (next_count k)) (tallied fs o s ts) (drop (record_bytes o s) s)
  unfolding ran
  frame_turn o k ts s h =
      let rest = drop (record_bytes o s) s in
      let whole : records_to (length s) fs o k ts s ≡ records_to (length rest) fs o (next_count k) (tallied fs o s ts) rest = turn o k ts s ∙ rw (cut_not o s h) in
      within_none o k ts s ∙ whole ∙ sym (within_none o (next_count k) (tallied fs o s ts) rest)

  -- A record waits for more bytes.
  pub wait_turn : (o : Order) (k : ℕ) (ts s : List ℕ) → length s < record_bytes o s → passes o s ≡ false → ran fs (amid o 0 k) ts s ≡ paused (amid o 0 k) ts s
  unfolding ran halted
  wait_turn o k ts s h e =
      let held : records_to (length s) fs o k ts s ≡ paused (amid o 0 k) ts s = turn o k ts s ∙ rw (cut_so o s h, e) in
      within_none o k ts s ∙ held

  pub refusing_turn : (r : Numbered) (ts s : List ℕ) → ran fs (Refusing r) ts s ≡ paused (Refusing r) ts []
  unfolding ran
  refusing_turn r ts s = refl

  pub short_tallied : (o : Order) (ts s : List ℕ) → captured o s < original o s → tallied fs o s ts ≡ count_up (short_at (length fs)) ts
  unfolding tallied
  short_tallied o ts s l = rw (lt-ltb (captured o s) (original o s) l)

  pub long_tallied : (o : Order) (ts s : List ℕ) → original o s ≤ captured o s → max_frame < captured o s → tallied fs o s ts ≡ count_up (long_at (length fs)) ts
  unfolding tallied
  long_tallied o ts s l m = rw (le-ltb (captured o s) (original o s) l, lt-ltb max_frame (captured o s) m)

  pub frame_tallied : (o : Order) (ts s : List ℕ) → original o s ≤ captured o s → captured o s ≤ max_frame →
      tallied fs o s ts ≡ counted (length fs) (match_set fs (field (frame_of o s) 0)) ts
  unfolding tallied
  frame_tallied o ts s l m = rw (le-ltb (captured o s) (original o s) l, le-ltb max_frame (captured o s) m)
