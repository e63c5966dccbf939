-- Each way to go on keeps the promise, from what the code knows there.
-- Assumes nothing.
use Rattle.std.specs.Prelude.{ℕ, zero, suc, ◌+◌, ◌-◌, ◌≤◌, ◌<◌, ◌≡◌, refl, true, false, ◌||◌, List, [], length, take, drop, min, Ok, Err}
use Rattle.std.proofs.Common.{sym, ap, ◌∙◌, arith, lt-ltb, le-ltb, take_all}
use Rattle.std.proofs.Math.Nat.{sub-zero}
use Rattle.std.proofs.lemmas.List.{take_min}
use Rattle.fields.specs.Ethernet.{max_frame}
use Rattle.fields.specs.Fields.{field}
use Rattle.lists.specs.Filters.{Filter, filters_of}
use Rattle.lists.specs.Refusals.{Listed, listed}
use Rattle.lists.specs.Ranks.{match_set}
use Rattle.lists.specs.laws.Accepted.{accepted_count}
use Rattle.lists.specs.declared.Counts.{Counts}
use Rattle.refusals.specs.declared.Refused.{Refused}
use Rattle.captures.specs.Files.{file_header, record_header, captured, original, record_bytes}
use Rattle.captures.specs.Replay.{next_count, short_at, long_at, tally_room, count_up, counted, short, long, tallied, numbered}
use Rattle.captures.specs.Parts.{amid, paused, passes, records_to, within, ran, went_on_by, went_on, WentOn}
use Rattle.captures.specs.inner.Steps.{gone, opened, Took, Waited, fitted_by, fitted}
use Rattle.captures.specs.declared.Order.{Order}
use Rattle.captures.specs.declared.Numbered.{Numbered}
use Rattle.captures.specs.declared.Reading.{Reading}
use Rattle.captures.specs.declared.Stand.{Stand}
use Rattle.captures.specs.declared.Stand.TheVariants.{Start, Within, Refusing}
use Rattle.captures.specs.declared.Gone.{Gone}
use Rattle.captures.specs.declared.Pause.{Pause}
use Rattle.captures.specs.laws.Turns.{passes_header, passes_so, open_turn, header_turn, frame_turn, wait_turn, short_tallied, long_tallied, frame_tallied}
use Rattle.captures.specs.laws.Whole.{went_ran}

-- A record begins.
module _ (fs : List Filter) (w : Reading) (z : w.left ≡ 0) (ts s : List ℕ) where
  abbrev order : Order
  order = w.order

  abbrev number : ℕ
  number = w.number

  begun : Within w ≡ amid order 0 number
  begun = ap (λ (n : ℕ). amid order n number) z

  waits : length s < record_bytes order s → passes order s ≡ false → Waited fs (Within w) ts s ts
  waits h p = rw begun record { counts = refl; rests = wait_turn fs order number ts s h p }

  -- Its header is not there.
  pub went_wait : length s < record_header → Waited fs (Within w) ts s ts
  went_wait h = waits (omega arith) (passes_header order s h)

  module _ (c m : ℕ) (cap : c ≡ captured order s) (orig : m ≡ original order s) (head : record_header ≤ length s) where
    -- Its frame is not there.
    pub went_cut : m ≤ c → c ≤ max_frame → length s < record_header + c → Waited fs (Within w) ts s ts
    went_cut l f h =
        let whole : short order s ≡ false = le-ltb (captured order s) (original order s) (omega arith) in
        let few : long order s ≡ false = le-ltb max_frame (captured order s) (omega arith) in
        waits (omega arith) (passes_so order s head ∙ rw (whole, few))

    module _ (n : ℕ) (count : length fs ≡ n) (g : Gone) (ts' : List ℕ) where
      passed : g ≡ gone record_header (amid order c (next_count number)) → (short order s || long order s) ≡ true → tallied fs order s ts ≡ ts' → Took fs (Within w) ts s g ts'
      passed e p t = rw (e, begun) record { some = omega arith; within = head; keeps = rw (t, ← cap) at (header_turn fs order number ts s head (passes_so order s head ∙ p)) }

      pub went_short : g ≡ gone record_header (amid order c (next_count number)) → c < m → ts' ≡ count_up (short_at n) ts → Took fs (Within w) ts s g ts'
      went_short e l t =
          let less : captured order s < original order s = omega arith in
          passed e (rw (lt-ltb (captured order s) (original order s) less))
          (short_tallied fs order ts s less ∙ ap (λ (i : ℕ). count_up (short_at i) ts) count ∙ sym t)

      pub went_long : g ≡ gone record_header (amid order c (next_count number)) → m ≤ c → max_frame < c → ts' ≡ count_up (long_at n) ts → Took fs (Within w) ts s g ts'
      went_long e l f t =
          let whole : original order s ≤ captured order s = omega arith in
          let more : max_frame < captured order s = omega arith in
          passed e (rw (le-ltb (captured order s) (original order s) whole, lt-ltb max_frame (captured order s) more))
          (long_tallied fs order ts s whole more ∙ ap (λ (i : ℕ). count_up (long_at i) ts) count ∙ sym t)

      pub went_frame : g ≡ gone (record_header + c) (amid order 0 (next_count number)) → m ≤ c → c ≤ max_frame → record_header + c ≤ length s →
          ts' ≡ counted n (match_set fs (field (take (record_header + c - record_header) (drop record_header s)) 0)) ts → Took fs (Within w) ts s g ts'
      went_frame e l f h t =
          let same : record_header + c - record_header ≡ captured order s = omega arith in
          let whole : record_bytes order s ≡ record_header + c = omega arith in
          let so : tallied fs order s ts ≡ ts' =
          frame_tallied fs order ts s (omega arith) (omega arith) ∙ rw (count, ← same) (sym t) in
          rw (e, begun) record { some = omega arith; within = h; keeps = rw (so, whole) at (frame_turn fs order number ts s (omega arith)) }

-- No bytes.
empty : (s : List ℕ) → length s ≡ 0 → s ≡ []
empty s e = sym (take_all 0 s (omega (arith, e)))

none_within : (fs : List Filter) (o : Order) (skip k : ℕ) (ts : List ℕ) → within fs o skip k ts [] ≡ paused (amid o skip k) ts []
unfolding within records_to
none_within fs o zero k ts = refl
none_within fs o (suc skip) k ts = rw (lt-ltb 0 (suc skip) (omega arith), sub-zero (suc skip))

ran_none : (fs : List Filter) (st : Stand) (ts : List ℕ) → ran fs st ts [] ≡ paused st ts []
unfolding ran
ran_none fs Start ts = refl
ran_none fs (Within w) ts = none_within fs w.order w.left w.number ts
ran_none fs (Refusing r) ts = refl

module _ (fs : List Filter) (st : Stand) (ts s : List ℕ) where
  pub went_none : length s ≡ 0 → Waited fs st ts s ts
  went_none e = rw (empty s e) record { counts = refl; rests = ran_none fs st ts }

  pub went_refused : (r : Numbered) → st ≡ Refusing r → 0 < length s → Took fs st ts s (gone (length s) st) ts
  unfolding ran
  went_refused r e h = rw e record { some = h; within = omega arith; keeps = refl }

-- The file's header.
module _ (fs : List Filter) (ts s : List ℕ) where
  pub went_start : length s < file_header → Waited fs Start ts s ts
  unfolding ran
  went_start h = record { counts = refl; rests = rw (lt-ltb (length s) file_header h) }

  pub went_open : (st : Stand) → st ≡ opened s → file_header ≤ length s → Took fs Start ts s (gone file_header st) ts
  went_open st e h = record { some = omega arith; within = h; keeps = rw e (open_turn fs ts s h) }

-- A list that is refused, and one that takes another number of tallies.
refused_by : (x : Listed) (l : List ℕ) (st : Stand) (ts s : List ℕ) (r : Refused ℕ) → fitted_by x (length ts) ≡ Err r → went_on_by x l st ts s ≡ paused (Refusing (numbered r)) ts []
unfolding went_on_by
refused_by (Err q) l st ts s r e = cc
refused_by (Ok c) l st ts s r e = grind arith

fitting_by : (x : Listed) (n : ℕ) (c : Counts) → fitted_by x n ≡ Ok c → (x ≡ Ok c) × (n ≡ tally_room c.filters)
fitting_by (Err q) n c e = cc
fitting_by (Ok d) n c e = grind arith

pub fitting : (l : List ℕ) (n : ℕ) (c : Counts) → fitted l n ≡ Ok c → (listed l ≡ Ok c) × (n ≡ tally_room c.filters)
unfolding fitted
fitting l n c e = fitting_by (listed l) n c e

-- Nothing waits at a refusal; else the bytes go on, all of the buffer where it has fewer.
module _ (l : List ℕ) (st : Stand) (before ts : List ℕ) (held : ℕ) where
  pub on_refused : (r : Refused ℕ) → fitted l (length ts) ≡ Err r → WentOn (went_on l st ts (take held before)) before (record { stand = Refusing (numbered r); held = 0 }) before ts
  unfolding fitted went_on
  on_refused r e = rw (refused_by (listed l) l st ts (take held before) r e) record { stand = refl; held = refl; buffer = refl; tallies = refl }

  pub on_fitting : (c : Counts) (end : ℕ) (r : Pause) (after ts' : List ℕ) → fitted l (length ts) ≡ Ok c → end ≡ min held (length before) →
      WentOn (ran (filters_of l) st ts (take end before)) before r after ts' → WentOn (went_on l st ts (take held before)) before r after ts'
  on_fitting c end r after ts' e f w =
      let fit = fitting l (length ts) c e in
      rw (went_ran l c fit.0 st ts (take held before) fit.1) (rw (f, take_min) at w)

-- What a record that waits needs.
pub ruleset waiting = (went_wait, went_cut, accepted_count)
