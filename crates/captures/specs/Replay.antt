-- Change request P10: what replaying a capture file through a list of filters comes to. The box port is 0.
--   most_count, next_count x   the greatest count, and x counted up: the greatest stays as it is
--   matched_at n .. long_at n   the places of the last_tallies, four, behind those of n filters; tally_room n tallies in all
--   last_four n ts          the last four together
--   count_up i ts           tally i counted up
--   count_set n s ts        the tally of each filter below n that is in the set s counted up
--   counted n s ts         a frame with the match set s, by n filters
--   short, long o s        less was captured than there was; more bytes than a frame may have
--   tallied fs o s ts      the record with which the bytes s begin: short, too long, or matched
--   numbered r              the refusal r by its number, at its place
--   Replay, replay_of       the answer: so many records, or a refusal with the record's number; and the tallies in the order in which they are printed; none with a refusal
--   records fs o k ts s    what the bytes s, behind k records and their tallies ts, come to
--   replayed fs s          the whole file s
--   text_replayed x s       the same with the list as the text x
use Rattle.std.specs.Prelude.{ℕ, zero, suc, ◌+◌, Bool, cond, List, [], ◌∷◌, ltb, eqb, length, drop, get_or, set, replicate, Result, Ok, Err}
use Rattle.sets.specs.Sets.{member}
use Rattle.fields.specs.Ethernet.{max_frame}
use Rattle.fields.specs.Fields.{field}
use Rattle.lists.specs.Filters.{Filter, filters_of}
use Rattle.lists.specs.Ranks.{match_set}
use Rattle.lists.specs.Refusals.{Listed, listed}
use Rattle.refusals.specs.Numbers.{number_of, refused, unplaced}
use Rattle.refusals.specs.declared.Refusal.TheVariants.{Capture, CutRecord}
use Rattle.refusals.specs.declared.Refused.{Refused}
use Rattle.text.specs.Text.{text_refusal, readable, words_of}
use Rattle.captures.specs.Files.{file_header, order_of, headed, captured, original, record_bytes, cut, frame_of}
use Rattle.captures.specs.declared.Order.{Order}
use Rattle.captures.specs.declared.Numbered.{Numbered}

abbrev pub most_count : ℕ
most_count = 18446744073709551615

unfoldable pub next_count : ℕ → ℕ
next_count x = cond (ltb x most_count) (x + 1) most_count

abbrev pub matched_at : ℕ → ℕ
matched_at n = n

abbrev pub unmatched_at : ℕ → ℕ
unmatched_at n = n + 1

abbrev pub short_at : ℕ → ℕ
short_at n = n + 2

abbrev pub long_at : ℕ → ℕ
long_at n = n + 3

abbrev pub last_tallies : ℕ
last_tallies = 4

abbrev pub tally_room : ℕ → ℕ
tally_room n = n + last_tallies

abbrev pub last_four : ℕ → List ℕ → ℕ
last_four n ts = get_or ts (matched_at n) 0 + get_or ts (unmatched_at n) 0 + get_or ts (short_at n) 0 + get_or ts (long_at n) 0

unfoldable pub count_up : ℕ → List ℕ → List ℕ
count_up i ts = set ts i (next_count (get_or ts i 0))

unfoldable pub count_set : ℕ → ℕ → List ℕ → List ℕ
count_set zero s ts = ts
count_set (suc n) s ts = cond (member n s) (count_up n (count_set n s ts)) (count_set n s ts)

unfoldable pub counted : ℕ → ℕ → List ℕ → List ℕ
counted n s ts = count_up (cond (eqb s 0) (unmatched_at n) (matched_at n)) (count_set n s ts)

abbrev pub short : Order → List ℕ → Bool
short o s = ltb (captured o s) (original o s)

abbrev pub long : Order → List ℕ → Bool
long o s = ltb max_frame (captured o s)

-- A short record is not classified; more captured than there was is not short.
unfoldable pub tallied : List Filter → Order → List ℕ → List ℕ → List ℕ
tallied fs o s ts =
    cond (short o s) (count_up (short_at (length fs)) ts)
    (cond (long o s) (count_up (long_at (length fs)) ts)
    (counted (length fs) (match_set fs (field (frame_of o s) 0)) ts))

abbrev pub numbered : Refused ℕ → Numbered
numbered r = record { number = number_of r.refusal; place = r.place }

pub record Replay : Type 0 where
  pub answer : Result ℕ Numbered
  pub counts : List ℕ

unfoldable pub replay_of : Result ℕ Numbered → List ℕ → Replay
replay_of (Ok k) ts = record { answer = Ok k; counts = ts }
replay_of (Err r) ts = record { answer = Err r; counts = [] }

-- At most n records follow. Records count from 1; one that the end of the file cuts is refused, whatever it is.
unfoldable pub records_from : ℕ → List Filter → Order → ℕ → List ℕ → List ℕ → Replay
records_from zero fs o k ts s = replay_of (Ok k) ts
records_from (suc n) fs o k ts [] = replay_of (Ok k) ts
records_from (suc n) fs o k ts (b ∷ s) =
    cond (cut o (b ∷ s)) (replay_of (Err (numbered (refused CutRecord (next_count k)))) ts)
    (records_from n fs o (next_count k) (tallied fs o (b ∷ s) ts) (drop (record_bytes o (b ∷ s)) (b ∷ s)))

unfoldable pub records : List Filter → Order → ℕ → List ℕ → List ℕ → Replay
records fs o k ts s = records_from (length s) fs o k ts s

unfoldable pub replayed : List Filter → List ℕ → Replay
replayed fs s =
    cond (headed s) (records fs (order_of s) 0 (replicate (tally_room (length fs)) 0) (drop file_header s))
    (replay_of (Err (numbered (unplaced Capture))) [])

unfoldable pub replayed_by : Listed → List ℕ → List ℕ → Replay
replayed_by (Err r) l s = replay_of (Err (numbered r)) []
replayed_by (Ok c) l s = replayed (filters_of l) s

-- Refusal 14 comes first, then the list's own.
unfoldable pub text_replayed : List ℕ → List ℕ → Replay
text_replayed x s = cond (readable x) (replayed_by (listed (words_of x)) (words_of x) s) (replay_of (Err (numbered (unplaced text_refusal))) [])
