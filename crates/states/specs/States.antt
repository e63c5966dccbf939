-- Document 01, "States and the table", first two paragraphs: what a state says, its step, its sets, its question.
--   Standing          of one filter: out, or the tests that remain, in list order
--   State             a standing for each filter
--   standing s i      what s says of filter i; beyond the list, out
--   cut n k ts        what the fact k about field n leaves of the tests ts
--   closed fs s       each filter that ranks below a held one becomes out
--   start fs          the start of the list fs
--   question_of s      the first remaining test of the first filter that has any
--   step_by fs o q s   the state after the question q came to o
--   sure, is_out, is_open   of a filter in a state; sure_set, out_set as bit sets
use Rattle.std.specs.Prelude.{ℕ, ◌+◌, Bool, true, false, cond, not, ◌&&◌, List, [], ◌∷◌, map, ltb, eqb, length, get_or, Option}
use Rattle.residue.specs.Facts.{fact_of}
use Rattle.residue.specs.Residues.{residue_by}
use Rattle.residue.specs.declared.Outcome.{Outcome}
use Rattle.residue.specs.declared.Residue.{Residue}
use Rattle.residue.specs.declared.Residue.TheVariants.{True, False, Left}
use Rattle.fields.specs.Widths.{full}
use Rattle.sets.specs.Sets.{set_of, tally, some}
use Rattle.lists.specs.Filters.{Item, Filter}
use Rattle.lists.specs.Ranks.{above}
use Rattle.residue.specs.declared.Test.{Test}

pub data Standing : Type 0 where
  out : Standing
  left : List Item → Standing

abbrev pub State : Type 0
State = List Standing

abbrev pub standing : State → ℕ → Standing
standing s i = get_or s i out

-- No tests remaining is held.
unfoldable pub is_held : Standing → Bool
is_held out = false
is_held (left []) = true
is_held (left (t ∷ ts)) = false

unfoldable pub is_out : Standing → Bool
is_out out = true
is_out (left ts) = false

-- A filter whose residue has a false test is out; true tests are dropped.
unfoldable pub keep : Item → Standing → Standing
keep t out = out
keep t (left ts) = left (t ∷ ts)

unfoldable pub join : ℕ → Residue → Standing → Standing
join n True x = x
join n False x = out
join n (Left u) x = keep (record { field = n; test = u }) x

-- Tests on other fields are unchanged.
unfoldable pub cut : ℕ → Option Test → List Item → Standing
cut n k [] = left []
cut n k (t ∷ ts) = cond (eqb t.field n) (join n (residue_by (full n) k t.test) (cut n k ts)) (keep t (cut n k ts))

unfoldable pub cut_standing : ℕ → Option Test → Standing → Standing
cut_standing n k out = out
cut_standing n k (left ts) = cut n k ts

-- A held filter ranks above filter i.
unfoldable pub beaten : List Filter → State → ℕ → Bool
beaten fs s i = some (length fs) (λ j. above fs j i && is_held (standing s j))

-- The standings from number i on, those that are beaten in s made out.
unfoldable pub closed_from : List Filter → State → ℕ → State → State
closed_from fs s i [] = []
closed_from fs s i (x ∷ xs) = cond (beaten fs s i) out x ∷ closed_from fs s (i + 1) xs

unfoldable pub closed : List Filter → State → State
closed fs s = closed_from fs s 0 s

unfoldable pub all_left : Filter → Standing
all_left f = left f.tests

unfoldable pub start : List Filter → State
start fs = closed fs (map all_left fs)

pub data Question : Type 0 where
  nothing : Question
  ask : Item → Question

unfoldable pub question_of : State → Question
question_of [] = nothing
question_of (out ∷ s) = question_of s
question_of (left [] ∷ s) = question_of s
question_of (left (t ∷ ts) ∷ s) = ask t

unfoldable pub step_by : List Filter → Outcome → Item → State → State
step_by fs o q s = closed fs (map (cut_standing q.field (fact_of (full q.field) o q.test)) s)

unfoldable pub step_at : List Filter → Outcome → Question → State → State
step_at fs o nothing s = s
step_at fs o (ask q) s = step_by fs o q s

unfoldable pub step : List Filter → Outcome → State → State
step fs o s = step_at fs o (question_of s) s

-- Held, and every filter ranking above it is out.
unfoldable pub sure : List Filter → State → ℕ → Bool
sure fs s i = is_held (standing s i) && not (some (length fs) (λ j. above fs j i && not (is_out (standing s j))))

unfoldable pub is_open : List Filter → State → ℕ → Bool
is_open fs s i = ltb i (length fs) && not (sure fs s i) && not (is_out (standing s i))

unfoldable pub sure_set : List Filter → State → ℕ
sure_set fs s = set_of (tally (length fs) (λ i. sure fs s i))

unfoldable pub out_set : List Filter → State → ℕ
out_set fs s = set_of (tally (length fs) (λ i. is_out (standing s i)))
