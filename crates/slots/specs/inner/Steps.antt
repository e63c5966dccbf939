-- What the steps of the code leave, one test or one filter at a time, and what they ask of their slices.
--   over at ws d        d with the words ws from place at on
--   cleared_from e d    d up to place e, zeros behind
--   left_of n k t       what the fact k about field n leaves of the test t, whatever its field
--   kept_words, kept_at   the words, and the place behind the last kept test, after one more test; none where the filter is out
--   finish e d          the filter whose kept tests end at place e, zeros behind; out where e is none
--   finished e d x      d up to place e, then the tests of x, zeros behind
--   marked_set n m w    the filters whose first word is m
use Rattle.std.specs.Prelude.{ℕ, ◌+◌, ◌*◌, ◌-◌, ◌≤◌, ◌≡◌, cond, List, ◌++◌, eqb, length, take, drop, replicate, Option, None, Some, IfSome, Ok}
use Rattle.residue.specs.Residues.{residue_by}
use Rattle.residue.specs.declared.Test.{Test}
use Rattle.residue.specs.declared.Residue.{Residue}
use Rattle.residue.specs.declared.Residue.TheVariants.{True, False, Left}
use Rattle.fields.specs.Widths.{full}
use Rattle.lists.specs.Filters.{Item, max_filters, test_words}
use Rattle.lists.specs.Refusals.{listed, counts}
use Rattle.lists.specs.Words.{item_words}
use Rattle.states.specs.States.{Standing, out, left, cut_standing}
use Rattle.sets.specs.Sets.{set_of, tally}
use Rattle.slots.specs.inner.Slots.{head_of}
use Rattle.slots.specs.Words.{filter_slot}
use Rattle.slots.specs.Asking.{filters_in}
use Rattle.slots.specs.inner.Words.{items_words, out_words, written_filter, read_filter}

abbrev pub over : ℕ → List ℕ → List ℕ → List ℕ
over at ws d = take at d ++ ws ++ drop (at + length ws) d

abbrev pub cleared_from : ℕ → List ℕ → List ℕ
cleared_from e d = take e d ++ replicate (length d - e) 0

abbrev pub item : ℕ → Test → Item
item f t = record { field = f; test = t }

unfoldable pub left_of : ℕ → Option Test → Item → Residue
left_of n k t = cond (eqb t.field n) (residue_by (full n) k t.test) (Left t.test)

unfoldable pub kept_words : ℕ → ℕ → Residue → List ℕ → List ℕ
kept_words e f True d = d
kept_words e f False d = d
kept_words e f (Left u) d = over e (item_words (item f u)) d

unfoldable pub kept_at : ℕ → Residue → Option ℕ
kept_at e True = Some e
kept_at e False = None
kept_at e (Left u) = Some (e + test_words)

unfoldable pub finish : Option ℕ → List ℕ → List ℕ
finish None d = out_words
finish (Some e) d = cleared_from e d

unfoldable pub finished : ℕ → List ℕ → Standing → List ℕ
finished e d out = out_words
finished e d (left ts) = take e d ++ (items_words ts ++ replicate (filter_slot - e - test_words * length ts) 0)

-- One filter's words, and room for a test.
pub record Room (at : ℕ) (d : List ℕ) : Type 0 where
  pub one : length d ≡ filter_slot
  pub room : at + test_words ≤ filter_slot

pub record Kept (e f : ℕ) (r : Residue) (d d' : List ℕ) (e' : Option ℕ) : Type 0 where
  pub words : d' ≡ kept_words e f r d
  pub behind : e' ≡ kept_at e r

-- The tests are cut; behind place e nothing counts.
pub record Cut (n : ℕ) (k : Option Test) (src d' : List ℕ) (e : Option ℕ) : Type 0 where
  pub words : finish e d' ≡ written_filter (cut_standing n k (read_filter src))
  pub within : IfSome e (λ x. x ≤ filter_slot)

unfoldable pub marked_set : ℕ → ℕ → List ℕ → ℕ
marked_set n m w = set_of (tally n (λ i. eqb (head_of w i) m))

-- The words of whole filters, as many as a list may have.
pub record StateWords (w : List ℕ) : Type 0 where
  pub few : filters_in w ≤ max_filters
  pub whole : length w ≡ filter_slot * filters_in w

-- The words of a state, and as many that are written.
pub record Both (src dst : List ℕ) : Type 0 where
  pub source : StateWords src
  pub target : length dst ≡ length src

-- An accepted list, and the words of its filters.
pub record Starts (list dst : List ℕ) : Type 0 where
  pub accepted : (t : ℕ) × (listed list ≡ Ok (counts (filters_in dst) t))
  pub target : length dst ≡ filter_slot * filters_in dst
