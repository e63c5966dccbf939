-- What stands within the bytes at hand does not depend on those that come later.
--   word_within, opened_within       a number, the file's header
--   captured_within, passes_within   a record's header
--   tallied_header, tallied_whole    what a record counts, by its header alone or whole
-- Assumes nothing.
use Rattle.std.specs.Prelude.{ℕ, ◌+◌, ◌-◌, ◌≤◌, ◌<◌, ◌≡◌, Bool, cond, ◌||◌, List, ◌++◌, drop}
use Rattle.std.proofs.Math.Path.{ap}
use Rattle.std.proofs.Math.Bool.{true}
use Rattle.std.proofs.Common.{arith}
use borrow.Author.Tests.{le-leb}
use Rattle.std.proofs.Math.ListN.{length, get_or-append, length-append, length-drop}
use Rattle.std.proofs.Math.Seq.{drop-append-le, take-append-le}
use Rattle.fields.specs.Bytes.{byte}
use Rattle.lists.specs.Filters.{Filter}
use Rattle.captures.specs.Files.{file_header, record_header, link_at, captured_at, original_at, word_of, is_magic, begins, order_of, linked, captured, original, record_bytes}
use Rattle.captures.specs.Replay.{short, long, tallied}
use Rattle.captures.specs.Parts.{passes}
use Rattle.captures.specs.inner.Steps.{opened}
use Rattle.captures.specs.declared.Order.{Order}
use Rattle.captures.specs.declared.Order.TheVariants.{Big, Little}

-- One of two tests holds, so the third choice does not matter.
third : {A : Type 0} (a b : Bool) (x y z z' : A) → (a || b) ≡ true → cond a x (cond b y z) ≡ cond a x (cond b y z')
third a b x y z z' e = grind arith

module _ (s later : List ℕ) where
  byte_within : (i : ℕ) → i < length s → byte (s ++ later) i ≡ byte s i
  byte_within i h = get_or-append s later 0 i h

  pub word_within : (o : Order) (i : ℕ) → i + 4 ≤ length s → word_of o (s ++ later) i ≡ word_of o s i
  unfolding word_of
  word_within Big i h =
      rw (byte_within i (omega arith), byte_within (i + 1) (omega arith), byte_within (i + 2) (omega arith), byte_within (i + 3) (omega arith))
  word_within Little i h =
      rw (byte_within i (omega arith), byte_within (i + 1) (omega arith), byte_within (i + 2) (omega arith), byte_within (i + 3) (omega arith))

  begins_within : (o : Order) → file_header ≤ length s → begins o (s ++ later) ≡ begins o s
  unfolding begins
  begins_within o h = ap is_magic (word_within o 0 (omega arith))

  pub opened_within : file_header ≤ length s → opened (s ++ later) ≡ opened s
  unfolding opened linked order_of
  opened_within h = rw (begins_within Big h, begins_within Little h, word_within (cond (begins Big s) Big Little) link_at (omega arith))

  module _ (o : Order) (h : record_header ≤ length s) where
    pub captured_within : captured o (s ++ later) ≡ captured o s
    captured_within = word_within o captured_at (omega arith)

    original_within : original o (s ++ later) ≡ original o s
    original_within = word_within o original_at (omega arith)

    pub passes_within : passes o (s ++ later) ≡ passes o s
    unfolding passes
    passes_within =
        let long-now : length (s ++ later) ≡ length s + length later = length-append s later in
        rw (le-leb record_header (length (s ++ later)) (omega (arith, long-now, h)), le-leb record_header (length s) h, captured_within, original_within)

    pub tallied_header : (fs : List Filter) (ts : List ℕ) → (short o s || long o s) ≡ true → tallied fs o (s ++ later) ts ≡ tallied fs o s ts
    unfolding tallied
    tallied_header fs ts e = rw (captured_within, original_within) (third (short o s) (long o s) _ _ _ _ e)

    pub tallied_whole : (fs : List Filter) (ts : List ℕ) → record_bytes o s ≤ length s → tallied fs o (s ++ later) ts ≡ tallied fs o s ts
    unfolding tallied
    tallied_whole fs ts l =
        let rest : length (drop record_header s) ≡ length s - record_header = length-drop record_header s in
        rw (captured_within, original_within, drop-append-le record_header s later h, take-append-le (captured o s) (drop record_header s) later (omega (arith, rest, l)))
