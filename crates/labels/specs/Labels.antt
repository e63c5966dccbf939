-- What a walk shows of the state that it ends in, and the frames that it is asked of.
--   shown_at fs s k b        what a walk answers that ends at the state s with k questions asked: done where s has no question, else stopped; b: some met a cut field
--   readings v              what fields read that are seen as v
--   met_in fs v n s          some question met a cut field, of n at most from the state s on (document 02, P7)
--   Legal f p               a frame that is not refused, of bytes, and a box port
use Rattle.std.specs.Prelude.{ℕ, zero, suc, ◌≤◌, ◌<◌, ◌^◌, Bool, false, ◌||◌, List, length, Option, Ok}
use Rattle.fields.specs.Bytes.{Bytes}
use Rattle.fields.specs.Ethernet.{max_frame}
use Rattle.fields.specs.Seen.{is_cut, reading_of}
use Rattle.fields.specs.declared.Seen.{Seen}
use Rattle.lists.specs.Filters.{Filter}
use Rattle.states.specs.States.{State, Question, nothing, ask, question_of, sure_set, out_set}
use Rattle.states.specs.Runs.{advance}
use Rattle.matcher.specs.declared.Found.{Found}
use Rattle.matcher.specs.declared.Walk.TheVariants.{Done, Stopped}
use Rattle.matcher.specs.Walk.{Answer}

unfoldable pub ended_by : Question → Found → Answer
ended_by nothing x = Ok (Done x)
ended_by (ask q) x = Ok (Stopped x)

unfoldable pub shown_at : List Filter → State → ℕ → Bool → Answer
shown_at fs s k b = ended_by (question_of s) (record { sure = sure_set fs s; out = out_set fs s; asked = k; cut = b })

abbrev pub readings : (ℕ → Seen) → ℕ → Option ℕ
readings v n = reading_of (v n)

unfoldable pub met_at : (ℕ → Seen) → Question → Bool → Bool
met_at v nothing b = false
met_at v (ask q) b = is_cut (v q.field) || b

unfoldable pub met_in : List Filter → (ℕ → Seen) → ℕ → State → Bool
met_in fs v zero s = false
met_in fs v (suc n) s = met_at v (question_of s) (met_in fs v n (advance fs (readings v) s))

pub record Legal (f : List ℕ) (p : ℕ) : Type 0 where
  pub short : length f ≤ max_frame
  pub bytes : Bytes f
  pub port : p < 2 ^ 8
