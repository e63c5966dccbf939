-- Counting: what a turn of the loop over the filters does, that the number of tallies stays, and that the last four add up.
-- Assumes nothing.
use Prim.Native.Nat.{ℕ, zero, suc, ◌+◌, ◌≤◌, ◌<◌}
use Rattle.std.specs.Prelude.{◌≡◌, cond, ltb, eqb, drop, replicate, Ok, Err}
use Rattle.std.proofs.Math.Path.{refl, ap}
use Rattle.std.proofs.Common.{◌∙◌, add-one, arith, lt-ltb, length-set, get_or-set_same, get_or-set_other}
use mathlib.Core.List.{List, [], ◌∷◌}
use Rattle.std.proofs.Math.ListN.{length, get_or}
use Rattle.std.proofs.lemmas.List.{length-replicate, get_or-replicate}
use Rattle.residue.specs.laws.Choice.{by_cond}
use Rattle.sets.specs.Sets.{member}
use Rattle.fields.specs.Fields.{field}
use Rattle.lists.specs.Filters.{Filter}
use Rattle.lists.specs.Ranks.{match_set}
use Rattle.refusals.specs.Numbers.{refused, unplaced}
use Rattle.refusals.specs.declared.Refusal.TheVariants.{Capture, CutRecord}
use Rattle.captures.specs.Files.{file_header, order_of, headed, record_bytes, cut, frame_of}
use Rattle.captures.specs.Replay.{most_count, next_count, matched_at, unmatched_at, short_at, long_at, tally_room, last_four, count_up, count_set, counted, short, long, tallied, numbered, Replay, replay_of, records_from, records, replayed}
use Rattle.captures.specs.declared.Order.{Order}
use Rattle.captures.specs.declared.Numbered.{Numbered}

pub up_long : (i : ℕ) (ts : List ℕ) → length (count_up i ts) ≡ length ts
unfolding count_up
up_long i ts = length-set ts i (next_count (get_or ts i 0))

up_there : (i : ℕ) (ts : List ℕ) → i < length ts → get_or ts i 0 < most_count → get_or (count_up i ts) i 0 ≡ get_or ts i 0 + 1
unfolding count_up next_count
up_there i ts h l = rw (lt-ltb (get_or ts i 0) most_count l) (get_or-set_same ts i (get_or ts i 0 + 1) 0 h)

up_other : (i j : ℕ) (ts : List ℕ) → (j ≡ i → ⊥) → get_or (count_up i ts) j 0 ≡ get_or ts j 0
unfolding count_up
up_other i j ts h = get_or-set_other ts i j (next_count (get_or ts i 0)) 0 h

module _ (s : ℕ) (ts : List ℕ) where
  pub set_turn : (n : ℕ) → count_set (n + 1) s ts ≡ cond (member n s) (count_up n (count_set n s ts)) (count_set n s ts)
  unfolding count_set
  set_turn n = ap (λ (k : ℕ). count_set k s ts) (add-one n)

  pub set_long : (n : ℕ) → length (count_set n s ts) ≡ length ts
  unfolding count_set
  set_long zero = refl
  set_long (suc n) =
      by_cond (λ (us : List ℕ). length us ≡ length ts) (member n s) (λ _. up_long n (count_set n s ts) ∙ set_long n) (λ _. set_long n)

  set_behind : (n j : ℕ) → n ≤ j → get_or (count_set n s ts) j 0 ≡ get_or ts j 0
  unfolding count_set
  set_behind zero j h = refl
  set_behind (suc n) j h =
      by_cond (λ (us : List ℕ). get_or us j 0 ≡ get_or ts j 0) (member n s)
      (λ _. up_other n j (count_set n s ts) (λ (q : j ≡ n). omega (arith, h, q)) ∙ set_behind n j (omega arith))
      (λ _. set_behind n j (omega arith))

module _ (n : ℕ) (ts : List ℕ) (room : length ts ≡ tally_room n) (few : last_four n ts < most_count) where
  up_matched : last_four n (count_up (matched_at n) ts) ≡ last_four n ts + 1
  up_matched = grind (arith, up_there, up_other)

  up_unmatched : last_four n (count_up (unmatched_at n) ts) ≡ last_four n ts + 1
  up_unmatched = grind (arith, up_there, up_other)

  up_short : last_four n (count_up (short_at n) ts) ≡ last_four n ts + 1
  up_short = grind (arith, up_there, up_other)

  up_long_frame : last_four n (count_up (long_at n) ts) ≡ last_four n ts + 1
  up_long_frame = grind (arith, up_there, up_other)

-- The tallies of the filters are others.
set_four : (n s : ℕ) (ts : List ℕ) → last_four n (count_set n s ts) ≡ last_four n ts
set_four n s ts =
    omega (arith, set_behind s ts n n (omega arith), set_behind s ts n (n + 1) (omega arith), set_behind s ts n (n + 2) (omega arith), set_behind s ts n (n + 3) (omega arith))

-- A record is counted once among the last four.
module _ (fs : List Filter) where
  abbrev n : ℕ
  n = length fs

  counted_four : (s : ℕ) (ts : List ℕ) → length ts ≡ tally_room n → last_four n ts < most_count → last_four n (counted n s ts) ≡ last_four n ts + 1
  unfolding counted
  counted_four s ts room few =
      let us = count_set n s ts in
      let same : last_four n us ≡ last_four n ts = set_four n s ts in
      let room' : length us ≡ tally_room n = set_long s ts n ∙ room in
      let few' : last_four n us < most_count = omega (arith, few, same) in
      by_cond (λ (p : ℕ). last_four n (count_up p us) ≡ last_four n ts + 1) (eqb s 0)
      (λ _. up_unmatched n us room' few' ∙ ap (λ (x : ℕ). x + 1) same)
      (λ _. up_matched n us room' few' ∙ ap (λ (x : ℕ). x + 1) same)

  tallied_four : (o : Order) (s ts : List ℕ) → length ts ≡ tally_room n → last_four n ts < most_count → last_four n (tallied fs o s ts) ≡ last_four n ts + 1
  unfolding tallied
  tallied_four o s ts room few =
      by_cond (λ (us : List ℕ). last_four n us ≡ last_four n ts + 1) (short o s) (λ _. up_short n ts room few)
      (λ _.
      by_cond (λ (us : List ℕ). last_four n us ≡ last_four n ts + 1) (long o s) (λ _. up_long_frame n ts room few)
      (λ _. counted_four (match_set fs (field (frame_of o s) 0)) ts room few))

  pub tallied_long : (o : Order) (s ts : List ℕ) → length (tallied fs o s ts) ≡ length ts
  unfolding tallied counted
  tallied_long o s ts =
      by_cond (λ (us : List ℕ). length us ≡ length ts) (short o s) (λ _. up_long (short_at n) ts)
      (λ _.
      by_cond (λ (us : List ℕ). length us ≡ length ts) (long o s) (λ _. up_long (long_at n) ts)
      (λ _. up_long _ _ ∙ set_long (match_set fs (field (frame_of o s) 0)) ts n))

  -- What is counted so far adds up, as long as the count of the records has not come to its end.
  abbrev AddsUp : ℕ → List ℕ → Type 0
  AddsUp k ts = (length ts ≡ tally_room n) × (k < most_count → last_four n ts ≡ k)

  more_less : (k : ℕ) → next_count k < most_count → k + 1 ≡ next_count k
  unfolding next_count
  more_less k = by_cond (λ (x : ℕ). x < most_count → k + 1 ≡ x) (ltb k most_count) (λ _ _. refl) (λ _ h. absurd (omega (arith, h)))

  next_adds_up : (o : Order) (k : ℕ) (s ts : List ℕ) → AddsUp k ts → AddsUp (next_count k) (tallied fs o s ts)
  next_adds_up o k s ts a = (
    tallied_long o s ts ∙ a.0,
    λ h.
        let e = more_less k h in
        let so : last_four n ts ≡ k = a.1 (omega (arith, e, h)) in
        tallied_four o s ts a.0 (omega (arith, e, h, so)) ∙ ap (λ (x : ℕ). x + 1) so ∙ e,
  )

  abbrev Sums : Replay → Type 0
  Sums x = (k : ℕ) → x.answer ≡ Ok k → k < most_count → last_four n x.counts ≡ k

  counted_sums : (k : ℕ) (ts : List ℕ) → AddsUp k ts → Sums (replay_of (Ok k) ts)
  unfolding replay_of
  counted_sums k ts a j e h = let same : k ≡ j = cc in a.1 (omega (arith, same, h)) ∙ same

  refused_sums : (r : Numbered) (ts : List ℕ) → Sums (replay_of (Err r) ts)
  unfolding replay_of
  refused_sums r ts j e h = cc

  records_sum : (m : ℕ) (o : Order) (k : ℕ) (ts s : List ℕ) → AddsUp k ts → Sums (records_from m fs o k ts s)
  unfolding records_from
  records_sum zero o k ts s a = counted_sums k ts a
  records_sum (suc m) o k ts [] a = counted_sums k ts a
  records_sum (suc m) o k ts (b ∷ s) a =
      by_cond Sums (cut o (b ∷ s)) (λ _. refused_sums (numbered (refused CutRecord (next_count k))) ts)
      (λ _. records_sum m o (next_count k) (tallied fs o (b ∷ s) ts) (drop (record_bytes o (b ∷ s)) (b ∷ s)) (next_adds_up o k (b ∷ s) ts a))

  abbrev zeros : List ℕ
  zeros = replicate (tally_room n) 0

  zero_at : (i : ℕ) → i < tally_room n → get_or zeros i 0 ≡ 0
  zero_at i h = get_or-replicate (tally_room n) i 0 0 h

  none_yet : AddsUp 0 zeros
  none_yet = (
    length-replicate (tally_room n) 0,
    λ _. omega (arith, zero_at n (omega arith), zero_at (n + 1) (omega arith), zero_at (n + 2) (omega arith), zero_at (n + 3) (omega arith)),
  )

  -- The last four tallies add up to the records read.
  pub adds_up : (s : List ℕ) → Sums (replayed fs s)
  unfolding replayed records
  adds_up s =
      by_cond Sums (headed s) (λ _. records_sum (length (drop file_header s)) (order_of s) 0 zeros (drop file_header s) none_yet) (λ _. refused_sums (numbered (unplaced Capture)) [])
