-- Change request P10: a capture comes in parts, since it may be longer than any buffer. What the calls answer and leave for each part.
--   amid o n k         a standing within the records, in the order o, with n bytes to skip of the record that was counted last, k records being begun
--   Paused             where a replay stands behind the bytes at hand, its tallies, and the bytes that wait for more
--   passes o s         the header of the record with which the bytes s begin is there and says that its frame is not matched
--   halted             the record is cut by the end of the bytes at hand: what is left of it is skipped later, or it waits
--   records_to, within  records up to the end of the bytes at hand, behind what is still to skip
--   ran fs st ts s     from a standing and tallies on
--   went_on l st ts s   the same by a list's words, which are checked again, and tallies of any number
--   WentOn             what the call leaves in the buffer and the tallies
--   ending st left     the answer where the file ends and so many bytes wait
--   begun_by x          what the text x of a list comes to
--   fed l p parts      part after part, each behind what waited
--   played             all calls of a replay; joined, the parts as one file
use Rattle.std.specs.Prelude.{ℕ, zero, suc, ◌-◌, ◌≡◌, Bool, cond, ◌&&◌, ◌||◌, List, [], ◌∷◌, ◌++◌, leb, ltb, eqb, length, drop, replicate, Result, Ok, Err}
use Rattle.lists.specs.Filters.{Filter, filters_of}
use Rattle.lists.specs.Refusals.{Listed, listed}
use Rattle.refusals.specs.Numbers.{refused, unplaced}
use Rattle.refusals.specs.declared.Refusal.TheVariants.{Capture, CutRecord, Tallies}
use Rattle.refusals.specs.declared.Refused.{Refused}
use Rattle.text.specs.Text.{text_refusal, readable, words_of}
use Rattle.captures.specs.Files.{file_header, record_header, order_of, linked, record_bytes, cut}
use Rattle.captures.specs.Replay.{next_count, tally_room, short, long, tallied, numbered, Replay, replay_of}
use Rattle.captures.specs.declared.Order.{Order}
use Rattle.captures.specs.declared.Numbered.{Numbered}
use Rattle.captures.specs.declared.Stand.{Stand}
use Rattle.captures.specs.declared.Stand.TheVariants.{Start, Within, Refusing}
use Rattle.captures.specs.declared.Pause.{Pause}
use Rattle.captures.specs.declared.Ready.{Ready}

abbrev pub amid : Order → ℕ → ℕ → Stand
amid o n k = Within (record { order = o; left = n; number = k })

pub record Paused : Type 0 where
  pub stand : Stand
  pub counts : List ℕ
  pub rest : List ℕ

abbrev pub paused : Stand → List ℕ → List ℕ → Paused
paused st ts s = record { stand = st; counts = ts; rest = s }

unfoldable pub passes : Order → List ℕ → Bool
passes o s = leb record_header (length s) && (short o s || long o s)

unfoldable pub halted : List Filter → Order → ℕ → List ℕ → List ℕ → Paused
halted fs o k ts s =
    cond (passes o s) (paused (amid o (record_bytes o s - length s) (next_count k)) (tallied fs o s ts) [])
    (paused (amid o 0 k) ts s)

-- At most n records follow.
unfoldable pub records_to : ℕ → List Filter → Order → ℕ → List ℕ → List ℕ → Paused
records_to zero fs o k ts s = paused (amid o 0 k) ts s
records_to (suc n) fs o k ts s =
    cond (cut o s) (halted fs o k ts s)
    (records_to n fs o (next_count k) (tallied fs o s ts) (drop (record_bytes o s) s))

unfoldable pub within : List Filter → Order → ℕ → ℕ → List ℕ → List ℕ → Paused
within fs o skip k ts s =
    cond (ltb (length s) skip) (paused (amid o (skip - length s) k) ts [])
    (records_to (length (drop skip s)) fs o k ts (drop skip s))

unfoldable pub ran : List Filter → Stand → List ℕ → List ℕ → Paused
ran fs Start ts s =
    cond (ltb (length s) file_header) (paused Start ts s)
    (cond (linked s) (within fs (order_of s) file_header 0 ts s) (paused (Refusing (numbered (unplaced Capture))) ts []))
ran fs (Within w) ts s = within fs w.order w.left w.number ts s
ran fs (Refusing r) ts s = paused (Refusing r) ts []

unfoldable pub went_on_by : Listed → List ℕ → Stand → List ℕ → List ℕ → Paused
went_on_by (Err r) l st ts s = paused (Refusing (numbered r)) ts []
went_on_by (Ok c) l st ts s =
    cond (eqb (length ts) (tally_room c.filters)) (ran (filters_of l) st ts s) (paused (Refusing (numbered (unplaced Tallies))) ts [])

unfoldable pub went_on : List ℕ → Stand → List ℕ → List ℕ → Paused
went_on l st ts s = went_on_by (listed l) l st ts s

-- What going on leaves: the bytes that wait come to the buffer's front, and those behind them stay.
pub record WentOn (p : Paused) (before : List ℕ) (r : Pause) (after counts : List ℕ) : Type 0 where
  pub stand : r.stand ≡ p.stand
  pub held : r.held ≡ length p.rest
  pub buffer : after ≡ p.rest ++ drop (length p.rest) before
  pub tallies : counts ≡ p.counts

-- The end of the file cuts a record that is being skipped, or one that waits.
unfoldable pub ending : Stand → ℕ → Result ℕ Numbered
ending Start left = Err (numbered (unplaced Capture))
ending (Within w) left =
    cond (eqb w.left 0) (cond (eqb left 0) (Ok w.number) (Err (numbered (refused CutRecord (next_count w.number))))) (Err (numbered (refused CutRecord w.number)))
ending (Refusing r) left = Err r

unfoldable pub begun_with : Listed → ℕ → Result Ready (Refused ℕ)
begun_with (Err r) words = Err r
begun_with (Ok c) words = Ok (record { words = words; tallies = tally_room c.filters })

-- So many words of list, and so many tallies; or a refusal.
unfoldable pub begun_by : List ℕ → Result Ready (Refused ℕ)
begun_by x = cond (readable x) (begun_with (listed (words_of x)) (length (words_of x))) (Err (unplaced text_refusal))

unfoldable pub fed : List ℕ → Paused → List (List ℕ) → Paused
fed l p [] = p
fed l p (s ∷ parts) = fed l (went_on l p.stand p.counts (p.rest ++ s)) parts

unfoldable pub finished : Paused → Replay
finished p = replay_of (ending p.stand (length p.rest)) p.counts

unfoldable pub played_by : Result Ready (Refused ℕ) → List ℕ → List (List ℕ) → Replay
played_by (Err r) l parts = replay_of (Err (numbered r)) []
played_by (Ok r) l parts = finished (fed l (paused Start (replicate r.tallies 0) []) parts)

unfoldable pub played : List ℕ → List (List ℕ) → Replay
played x parts = played_by (begun_by x) (words_of x) parts

unfoldable pub joined : List (List ℕ) → List ℕ
joined [] = []
joined (s ∷ parts) = s ++ joined parts
