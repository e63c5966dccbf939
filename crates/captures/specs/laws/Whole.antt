-- Parts and the whole: where the parts end does not matter, and what the calls come to at the end is what the file comes to.
--   ran_on        the bytes at hand and later ones, in one part or in two
--   ran_whole     the answer behind the whole file
--   refused_stays a refusal stays, whatever follows
--   ran_sound     so many tallies stay, and less waits than a record of the longest frame takes
--   fed_whole     any parts, by an accepted list
--   played_whole  all calls, by any text
--   ready_fit     a list that is ready has its text's words, and no more tallies than there may be
-- Assumes nothing.
use Prim.Native.Nat.{ℕ, zero, suc, ◌+◌, ◌-◌, ◌≤◌, ◌<◌}
use Rattle.std.specs.Prelude.{◌≡◌, Bool, cond, ◌||◌, ltb, leb, replicate, Result, Ok, Err}
use Rattle.std.proofs.Math.Path.{refl, sym, ap, ap₂}
use Rattle.std.proofs.Common.{◌∙◌}
use Rattle.std.proofs.Math.Bool.{true, false}
use mathlib.Core.List.{List, [], ◌∷◌, ◌++◌, append-nil, append_assoc}
use native.Mathlib.Omega.{arith}
use borrow.Author.Tests.{ltb-true, ltb-false, lt-ltb, le-ltb, leb-true, le-leb, lt-leb, eq-eqb, ne_eqb}
use Rattle.std.proofs.Math.ListN.{length, drop, length-drop, length-append}
use Rattle.std.proofs.lemmas.List.{length-replicate, drop-append-le}
use Rattle.std.proofs.Math.Seq.{drop-append_seam}
use Rattle.residue.specs.laws.Choice.{by_test, by_cond, first, second, neither}
use Rattle.fields.specs.Ethernet.{max_frame}
use Rattle.lists.specs.Filters.{max_filters, Filter, filters_of}
use Rattle.lists.specs.Refusals.{Listed, listed}
use Rattle.lists.specs.laws.Accepted.{accepted_count}
use Rattle.lists.specs.declared.Counts.{Counts}
use Rattle.refusals.specs.Numbers.{refused, unplaced}
use Rattle.refusals.specs.declared.Refusal.TheVariants.{Capture, CutRecord}
use Rattle.refusals.specs.declared.Refused.{Refused}
use Rattle.text.specs.Text.{text_refusal, readable, words_of}
use Rattle.captures.specs.Files.{file_header, record_header, order_of, linked, headed, captured, record_bytes, cut}
use Rattle.captures.specs.Replay.{next_count, short, long, tallied, tally_room, numbered, replay_of, records_from, records, replayed, replayed_by, text_replayed}
use Rattle.captures.specs.Parts.{amid, Paused, paused, passes, halted, records_to, within, ran, went_on_by, went_on, ending, begun_with, begun_by, fed, finished, played_by, played, joined}
use Rattle.captures.specs.inner.Steps.{opened}
use Rattle.captures.specs.laws.Words.{opened_within, captured_within, passes_within, tallied_header, tallied_whole}
use Rattle.captures.specs.laws.Tallies.{tallied_long}
use Rattle.captures.specs.laws.Turns.{passes_so, cut_not, stays, turn, within_none, skip_part, open_turn, passed_turn, refusing_turn}
use Rattle.captures.specs.declared.Stand.{Stand}
use Rattle.captures.specs.declared.Stand.TheVariants.{Start, Within, Refusing}
use Rattle.captures.specs.declared.Order.{Order}
use Rattle.captures.specs.declared.Numbered.{Numbered}
use Rattle.captures.specs.declared.Ready.{Ready}

-- A record that passes has its header there, and is short or long.
passes_there : (o : Order) (s : List ℕ) → passes o s ≡ true → record_header ≤ length s
unfolding passes
passes_there o s e = leb-true record_header (length s) (first (leb record_header (length s)) (short o s || long o s) e)

passes_why : (o : Order) (s : List ℕ) → passes o s ≡ true → (short o s || long o s) ≡ true
unfolding passes
passes_why o s e = second (leb record_header (length s)) (short o s || long o s) e

cut_true : (o : Order) (s : List ℕ) → cut o s ≡ true → length s < record_bytes o s
unfolding cut
cut_true o s e = ltb-true (length s) (record_bytes o s) e

cut_false : (o : Order) (s : List ℕ) → cut o s ≡ false → record_bytes o s ≤ length s
unfolding cut
cut_false o s e = ltb-false (length s) (record_bytes o s) e

module _ (fs : List Filter) where
  abbrev onward : Paused → List ℕ → Paused
  onward p later = ran fs p.stand p.counts (p.rest ++ later)

  abbrev all : Order → ℕ → List ℕ → List ℕ → Paused
  all o k ts s = records_to (length s) fs o k ts s

  module _ (o : Order) (k : ℕ) (ts s later : List ℕ) where
    waits_on : all o k ts (s ++ later) ≡ onward (paused (amid o 0 k) ts s) later
    unfolding ran
    waits_on = sym (within_none fs o k ts (s ++ later))

    passes_on : cut o s ≡ true → passes o s ≡ true →
        all o k ts (s ++ later) ≡ onward (paused (amid o (record_bytes o s - length s) (next_count k)) (tallied fs o s ts) []) later
    unfolding ran
    passes_on c e =
        let h = passes_there o s e in
        let long-now : length (s ++ later) ≡ length s + length later = length-append s later in
        let less = cut_true o s c in
        rw (captured_within s later o h, tallied_header s later o h fs ts (passes_why o s e)) at
        (passed_turn fs o k ts (s ++ later) (passes_within s later o h ∙ e))
        ∙ skip_part fs o (record_bytes o s) (next_count k) (length s) (tallied fs o s ts) (s ++ later) (omega (arith, less)) (omega (arith, long-now))
        ∙ ap (λ (r : List ℕ). within fs o (record_bytes o s - length s) (next_count k) (tallied fs o s ts) r) (drop-append_seam s later)

    frame_on : cut o s ≡ false →
        all o k ts (s ++ later) ≡ all o (next_count k) (tallied fs o s ts) (drop (record_bytes o s) s ++ later)
    frame_on c =
        let h = cut_false o s c in
        let head : record_header ≤ length s = omega (arith, h) in
        let long-now : length (s ++ later) ≡ length s + length later = length-append s later in
        let same = captured_within s later o head in
        turn fs o k ts (s ++ later)
        ∙ rw (cut_not o (s ++ later) (omega (arith, long-now, same, h)), same, tallied_whole s later o head fs ts h, drop-append-le (record_bytes o s) s later h)

  halts_on : (o : Order) (k : ℕ) (ts s later : List ℕ) → cut o s ≡ true → all o k ts (s ++ later) ≡ onward (halted fs o k ts s) later
  unfolding halted
  halts_on o k ts s later c =
      by_cond (λ (p : Paused). all o k ts (s ++ later) ≡ onward p later) (passes o s) (passes_on o k ts s later c) (λ _. waits_on o k ts s later)

  records_on : (n : ℕ) (o : Order) (k : ℕ) (ts s later : List ℕ) → length s ≤ n → all o k ts (s ++ later) ≡ onward (records_to n fs o k ts s) later
  unfolding records_to
  records_on zero o k ts s later h = waits_on o k ts s later
  records_on (suc n) o k ts s later h =
      let rest = drop (record_bytes o s) s in
      let less : length rest ≡ length s - record_bytes o s = length-drop (record_bytes o s) s in
      by_cond (λ (p : Paused). all o k ts (s ++ later) ≡ onward p later) (cut o s) (halts_on o k ts s later)
      (λ c. frame_on o k ts s later c ∙ records_on n o (next_count k) (tallied fs o s ts) rest later (omega (arith, less, h)))

  within_on : (o : Order) (skip k : ℕ) (ts s later : List ℕ) → within fs o skip k ts (s ++ later) ≡ onward (within fs o skip k ts s) later
  unfolding within ran
  within_on o skip k ts s later =
      let long-now : length (s ++ later) ≡ length s + length later = length-append s later in
      let none : skip - skip ≡ 0 = omega arith in
      by_cond (λ (p : Paused). within fs o skip k ts (s ++ later) ≡ onward p later) (ltb (length s) skip)
      (λ e.
      let less = ltb-true (length s) skip e in
      skip_part fs o skip k (length s) ts (s ++ later) (omega (arith, less)) (omega (arith, long-now))
      ∙ ap (λ (r : List ℕ). within fs o (skip - length s) k ts r) (drop-append_seam s later))
      (λ e.
      let h = ltb-false (length s) skip e in
      skip_part fs o skip k skip ts (s ++ later) (omega arith) (omega (arith, h, long-now))
      ∙ ap₂ (λ (n : ℕ) (r : List ℕ). within fs o n k ts r) none (drop-append-le skip s later h)
      ∙ within_none fs o k ts (drop skip s ++ later)
      ∙ records_on (length (drop skip s)) o k ts (drop skip s) later (omega arith))

  opened_on : (ts s later : List ℕ) (b : Bool) (o : Order) → ran fs (cond b (amid o 0 0) (Refusing (numbered (unplaced Capture)))) ts (s ++ later) ≡ onward (ran fs (cond b (amid o 0 0) (Refusing (numbered (unplaced Capture)))) ts s) later
  unfolding ran
  opened_on ts s later true o = within_on o 0 0 ts s later
  opened_on ts s later false o = refl

  start_on : (ts s later : List ℕ) → file_header ≤ length s → ran fs Start ts (s ++ later) ≡ onward (ran fs Start ts s) later
  unfolding opened
  start_on ts s later h =
      let long-now : length (s ++ later) ≡ length s + length later = length-append s later in
      open_turn fs ts (s ++ later) (omega (arith, h, long-now))
      ∙ ap₂ (λ (st : Stand) (r : List ℕ). ran fs st ts r) (opened_within s later h) (drop-append-le file_header s later h)
      ∙ opened_on ts (drop file_header s) later (linked s) (order_of s)
      ∙ ap (λ (p : Paused). onward p later) (sym (open_turn fs ts s h))

  start_wait : (ts s : List ℕ) → length s < file_header → ran fs Start ts s ≡ paused Start ts s
  unfolding ran
  start_wait ts s h = rw (lt-ltb (length s) file_header h)

  -- In one part or in two.
  pub ran_on : (st : Stand) (ts s later : List ℕ) → ran fs st ts (s ++ later) ≡ ran fs (ran fs st ts s).stand (ran fs st ts s).counts ((ran fs st ts s).rest ++ later)
  unfolding ran
  ran_on Start ts s later =
      by_test _ (ltb (length s) file_header)
      (λ e. ap (λ (p : Paused). onward p later) (sym (start_wait ts s (ltb-true (length s) file_header e))))
      (λ e. start_on ts s later (ltb-false (length s) file_header e))
  ran_on (Within w) ts s later = within_on w.order w.left w.number ts s later
  ran_on (Refusing r) ts s later = refl

  -- At the end of the file.
  module _ (o : Order) (k : ℕ) (ts s : List ℕ) where
    none_left : length s ≡ 0 → finished (paused (amid o 0 k) ts s) ≡ replay_of (Ok k) ts
    unfolding finished ending
    none_left e = rw (eq-eqb (length s) 0 e)

    some_left : 0 < length s → finished (paused (amid o 0 k) ts s) ≡ replay_of (Err (numbered (refused CutRecord (next_count k)))) ts
    unfolding finished ending
    some_left h = rw (ne_eqb (length s) 0 (λ (e : length s ≡ 0). omega (arith, h, e)))

    passed_left : (ts' : List ℕ) → cut o s ≡ true → finished (paused (amid o (record_bytes o s - length s) (next_count k)) ts' []) ≡ replay_of (Err (numbered (refused CutRecord (next_count k)))) ts
    unfolding finished ending replay_of
    passed_left ts' c =
        let less = cut_true o s c in
        rw (ne_eqb (record_bytes o s - length s) 0 (λ (e : record_bytes o s - length s ≡ 0). omega (arith, less, e)))

    halts_end : 0 < length s → cut o s ≡ true → finished (halted fs o k ts s) ≡ replay_of (Err (numbered (refused CutRecord (next_count k)))) ts
    unfolding halted
    halts_end h c =
        by_cond (λ (p : Paused). finished p ≡ replay_of (Err (numbered (refused CutRecord (next_count k)))) ts) (passes o s) (λ _. passed_left (tallied fs o s ts) c) (λ _. some_left h)

  records_end : (n : ℕ) (o : Order) (k : ℕ) (ts s : List ℕ) → length s ≤ n → finished (records_to n fs o k ts s) ≡ records_from n fs o k ts s
  unfolding records_to records_from
  records_end zero o k ts s h = none_left o k ts s (omega arith)
  records_end (suc n) o k ts [] h = ap finished (stays fs o k ts [] _ (omega arith)) ∙ none_left o k ts [] refl
  records_end (suc n) o k ts (b ∷ s) h =
      let bytes = b ∷ s in
      let rest = drop (record_bytes o bytes) bytes in
      let less : length rest ≡ length bytes - record_bytes o bytes = length-drop (record_bytes o bytes) bytes in
      by_test (finished (records_to (suc n) fs o k ts bytes) ≡ records_from (suc n) fs o k ts bytes) (cut o bytes)
      (λ c. rw c (halts_end o k ts bytes (omega arith) c))
      (λ c. rw c (records_end n o (next_count k) (tallied fs o bytes ts) rest (omega (arith, less, h))))

  refused_start : (ts s : List ℕ) → finished (paused Start ts s) ≡ replay_of (Err (numbered (unplaced Capture))) []
  unfolding finished ending replay_of
  refused_start ts s = refl

  linked_end : (ts s : List ℕ) (b : Bool) → file_header ≤ length s →
      finished (cond b (within fs (order_of s) file_header 0 ts s) (paused (Refusing (numbered (unplaced Capture))) ts [])) ≡
      cond b (records fs (order_of s) 0 ts (drop file_header s)) (replay_of (Err (numbered (unplaced Capture))) [])
  unfolding within records finished ending replay_of
  linked_end ts s true h = rw (le-ltb (length s) file_header h) (records_end (length (drop file_header s)) (order_of s) 0 ts (drop file_header s) (omega arith))
  linked_end ts s false h = refl

  start_end : (ts s : List ℕ) → finished (ran fs Start ts s) ≡ cond (headed s) (records fs (order_of s) 0 ts (drop file_header s)) (replay_of (Err (numbered (unplaced Capture))) [])
  unfolding ran headed
  start_end ts s =
      by_test _ (ltb (length s) file_header)
      (λ e. rw (e, lt-leb file_header (length s) (ltb-true (length s) file_header e)) (refused_start ts s))
      (λ e. rw (e, le-leb file_header (length s) (ltb-false (length s) file_header e)) (linked_end ts s (linked s) (ltb-false (length s) file_header e)))

  -- The answer behind the whole file.
  pub ran_whole : (s : List ℕ) → finished (ran fs Start (replicate (tally_room (length fs)) 0) s) ≡ replayed fs s
  unfolding replayed
  ran_whole s = start_end (replicate (tally_room (length fs)) 0) s

  -- Once refused, whatever follows is not looked at.
  pub refused_stays : (s later : List ℕ) (r : Numbered) → (ran fs Start (replicate (tally_room (length fs)) 0) s).stand ≡ Refusing r → replayed fs (s ++ later) ≡ replay_of (Err r) []
  unfolding finished ending replay_of
  refused_stays s later r e =
      let p = ran fs Start (replicate (tally_room (length fs)) 0) s in
      sym (ran_whole (s ++ later))
      ∙ ap finished (ran_on Start (replicate (tally_room (length fs)) 0) s later
      ∙ ap (λ (st : Stand). ran fs st p.counts (p.rest ++ later)) e ∙ refusing_turn fs r p.counts (p.rest ++ later))

  -- So many tallies are left, and less waits than a record of the longest frame takes.
  abbrev Sound : ℕ → Paused → Type 0
  Sound m p = (length p.counts ≡ m) × (length p.rest < record_header + max_frame)

  waits_few : (o : Order) (s : List ℕ) → cut o s ≡ true → passes o s ≡ false → length s < record_header + max_frame
  waits_few o s c e =
      by_test _ (ltb (length s) record_header) (λ t. let less = ltb-true (length s) record_header t in omega (arith, less))
      (λ t.
      let there = ltb-false (length s) record_header t in
      let neither-is = neither (short o s) (long o s) (sym (passes_so o s there) ∙ e) in
      omega (arith, cut_true o s c, ltb-false max_frame (captured o s) neither-is.1))

  halted_sound : (m : ℕ) (o : Order) (k : ℕ) (ts s : List ℕ) → length ts ≡ m → cut o s ≡ true → Sound m (halted fs o k ts s)
  unfolding halted
  halted_sound m o k ts s e c =
      by_cond (Sound m) (passes o s) (λ _. (tallied_long fs o s ts ∙ e, omega arith)) (λ t. (e, waits_few o s c t))

  records_sound : (n m : ℕ) (o : Order) (k : ℕ) (ts s : List ℕ) → length s ≤ n → length ts ≡ m → Sound m (records_to n fs o k ts s)
  unfolding records_to
  records_sound zero m o k ts s h e = (e, omega (arith, h))
  records_sound (suc n) m o k ts s h e =
      let rest = drop (record_bytes o s) s in
      let less : length rest ≡ length s - record_bytes o s = length-drop (record_bytes o s) s in
      by_cond (Sound m) (cut o s) (halted_sound m o k ts s e)
      (λ _. records_sound n m o (next_count k) (tallied fs o s ts) rest (omega (arith, less, h)) (tallied_long fs o s ts ∙ e))

  within_sound : (m : ℕ) (o : Order) (skip k : ℕ) (ts s : List ℕ) → length ts ≡ m → Sound m (within fs o skip k ts s)
  unfolding within
  within_sound m o skip k ts s e =
      by_cond (Sound m) (ltb (length s) skip) (λ _. (e, omega arith)) (λ _. records_sound (length (drop skip s)) m o k ts (drop skip s) (omega arith) e)

  pub ran_sound : (m : ℕ) (st : Stand) (ts s : List ℕ) → length ts ≡ m → Sound m (ran fs st ts s)
  unfolding ran
  ran_sound m Start ts s e =
      by_cond (Sound m) (ltb (length s) file_header) (λ t. let less = ltb-true (length s) file_header t in (e, omega (arith, less)))
      (λ _. by_cond (Sound m) (linked s) (λ _. within_sound m (order_of s) file_header 0 ts s e) (λ _. (e, omega arith)))
  ran_sound m (Within w) ts s e = within_sound m w.order w.left w.number ts s e
  ran_sound m (Refusing r) ts s e = (e, omega arith)

-- An accepted list goes on by its filters.
module _ (l : List ℕ) (c : Counts) (accepted : listed l ≡ Ok c) where
  abbrev fs : List Filter
  fs = filters_of l

  abbrev zeros : List ℕ
  zeros = replicate (tally_room (length fs)) 0

  abbrev n : ℕ
  n = c.filters

  room : tally_room (length fs) ≡ tally_room n
  room = let e = (accepted_count l c.filters c.tests accepted).0 in omega (arith, e)

  pub went_ran : (st : Stand) (ts s : List ℕ) → length ts ≡ tally_room n → went_on l st ts s ≡ ran fs st ts s
  unfolding went_on went_on_by
  went_ran st ts s h = rw (accepted, eq-eqb (length ts) (tally_room n) h)

  pub fed_whole : (parts : List (List ℕ)) (before : List ℕ) → fed l (ran fs Start zeros before) parts ≡ ran fs Start zeros (before ++ joined parts)
  unfolding fed joined
  fed_whole [] before = ap (λ (s : List ℕ). ran fs Start zeros s) (sym (append-nil before))
  fed_whole (s ∷ parts) before =
      let p = ran fs Start zeros before in
      let long-so : length p.counts ≡ tally_room n = (ran_sound fs (tally_room n) Start zeros before (length-replicate (tally_room (length fs)) 0 ∙ room)).0 in
      ap (λ (q : Paused). fed l q parts) (went_ran p.stand p.counts (p.rest ++ s) long-so ∙ sym (ran_on fs Start zeros before s))
      ∙ fed_whole parts (before ++ s)
      ∙ ap (λ (x : List ℕ). ran fs Start zeros x) (append_assoc before s (joined parts))

  none_read : paused Start (replicate (tally_room n) 0) [] ≡ ran fs Start zeros []
  unfolding ran
  none_read = ap (λ (m : ℕ). paused Start (replicate m 0) []) (sym room)

  pub accepted_whole : (parts : List (List ℕ)) → finished (fed l (paused Start (replicate (tally_room n) 0) []) parts) ≡ replayed fs (joined parts)
  accepted_whole parts = ap (λ (p : Paused). finished (fed l p parts)) none_read ∙ ap finished (fed_whole parts []) ∙ ran_whole fs (joined parts)

-- All calls, by any text.
listed_whole : (x : Listed) (l : List ℕ) (words : ℕ) (parts : List (List ℕ)) → listed l ≡ x → played_by (begun_with x words) l parts ≡ replayed_by x l (joined parts)
unfolding played_by begun_with replayed_by
listed_whole (Err r) l words parts e = refl
listed_whole (Ok c) l words parts e = accepted_whole l c e parts

pub played_whole : (x : List ℕ) (parts : List (List ℕ)) → played x parts ≡ text_replayed x (joined parts)
unfolding played begun_by text_replayed played_by
played_whole x parts =
    by_test _ (readable x) (λ e. rw e (listed_whole (listed (words_of x)) (words_of x) (length (words_of x)) parts refl)) (λ e. rw e)

-- A list that is ready has the words of its text, and takes no more tallies than the longest.
abbrev Fit : List ℕ → Ready → Result Ready (Refused ℕ) → Type 0
Fit l r b = b ≡ Ok r → (r.words ≡ length l) × (r.tallies ≤ tally_room max_filters)

listed_fit : (l : List ℕ) (r : Ready) (x : Listed) → listed l ≡ x → Fit l r (begun_with x (length l))
unfolding begun_with
listed_fit l r (Err e) q f = cc
listed_fit l r (Ok c) q f =
    let same : record { words = length l; tallies = tally_room c.filters } ≡ r = cc in
    (sym (ap (λ (x : Ready). x.words) same), omega (arith, ap (λ (x : Ready). x.tallies) same, (accepted_count l c.filters c.tests q).2))

unread_fit : (l : List ℕ) (r : Ready) (e : Refused ℕ) → Fit l r (Err e)
unread_fit l r e f = cc

pub ready_fit : (x : List ℕ) (r : Ready) → Fit (words_of x) r (begun_by x)
unfolding begun_by
ready_fit x r =
    by_cond (Fit (words_of x) r) (readable x) (λ _. listed_fit (words_of x) r (listed (words_of x)) refl) (λ _. unread_fit (words_of x) r (unplaced text_refusal))
