-- The ranking before document 02, P6, and what the definitions say under any ranking: each is the line of the same name with `ranks` for `above`.
--   old_above fs i j       filter i ranked above filter j: in one group, group 0 too
--   matches_under .. outcome_under   the match set; states, their steps and sets; a list's machine, states and records; what building answers and leaves
use Rattle.std.specs.Prelude.{ℕ, ◌+◌, Bool, cond, not, ◌&&◌, ◌||◌, List, [], ◌∷◌, ◌++◌, map, ltb, eqb, length, drop, Option, Ok, Err}
use Rattle.refusals.specs.Numbers.{unplaced}
use Rattle.refusals.specs.declared.Refusal.TheVariants.{ScratchRoom}
use Rattle.residue.specs.Facts.{fact_of}
use Rattle.residue.specs.declared.Outcome.{Outcome}
use Rattle.fields.specs.Widths.{full}
use Rattle.sets.specs.Sets.{set_of, tally, some}
use Rattle.lists.specs.Filters.{Item, Filter, filters_of}
use Rattle.lists.specs.Refusals.{Listed, listed}
use Rattle.lists.specs.Ranks.{group_of, level_of, fires}
use Rattle.states.specs.States.{State, out, standing, is_held, is_out, cut_standing, all_left, Question, nothing, ask, question_of, out_set}
use Rattle.states.specs.Runs.{asks}
use Rattle.states.specs.Same.{same_state}
use Rattle.tables.specs.Tables.{slots_of}
use Rattle.automaton.specs.Machines.{Machine, visit, records_of}
use Rattle.slots.specs.Words.{question_words}
use Rattle.machine.specs.Box.{levels_of}
use Rattle.words.specs.Lent.{cleared}
use Rattle.builder.specs.Outcome.{Left, scratch_words, refused, no_room}

abbrev pub Ranking : Type 0
Ranking = List Filter → ℕ → ℕ → Bool

unfoldable pub old_outranks : ℕ → ℕ → ℕ → ℕ → ℕ → ℕ → Bool
old_outranks g l i h m j = eqb g h && (ltb m l || (eqb l m && ltb i j))

unfoldable pub old_above : Ranking
old_above fs i j = old_outranks (group_of fs i) (level_of fs i) i (group_of fs j) (level_of fs j) j

module _ (ranks : Ranking) where
  -- ---- lists

  unfoldable pub matches_under : List Filter → (ℕ → Option ℕ) → ℕ → Bool
  matches_under fs r i = fires fs r i && not (some (length fs) (λ j. ranks fs j i && fires fs r j))

  unfoldable pub match_set_under : List Filter → (ℕ → Option ℕ) → ℕ
  match_set_under fs r = set_of (tally (length fs) (λ i. matches_under fs r i))

  -- ---- states

  unfoldable pub beaten_under : List Filter → State → ℕ → Bool
  beaten_under fs s i = some (length fs) (λ j. ranks fs j i && is_held (standing s j))

  unfoldable pub closed_from_under : List Filter → State → ℕ → State → State
  closed_from_under fs s i [] = []
  closed_from_under fs s i (x ∷ xs) = cond (beaten_under fs s i) out x ∷ closed_from_under fs s (i + 1) xs

  unfoldable pub closed_under : List Filter → State → State
  closed_under fs s = closed_from_under fs s 0 s

  unfoldable pub start_under : List Filter → State
  start_under fs = closed_under fs (map all_left fs)

  unfoldable pub step_by_under : List Filter → Outcome → Item → State → State
  step_by_under fs o q s = closed_under fs (map (cut_standing q.field (fact_of (full q.field) o q.test)) s)

  unfoldable pub step_at_under : List Filter → Outcome → Question → State → State
  step_at_under fs o nothing s = s
  step_at_under fs o (ask q) s = step_by_under fs o q s

  unfoldable pub step_under : List Filter → Outcome → State → State
  step_under fs o s = step_at_under fs o (question_of s) s

  unfoldable pub sure_under : List Filter → State → ℕ → Bool
  sure_under fs s i = is_held (standing s i) && not (some (length fs) (λ j. ranks fs j i && not (is_out (standing s j))))

  unfoldable pub sure_set_under : List Filter → State → ℕ
  sure_set_under fs s = set_of (tally (length fs) (λ i. sure_under fs s i))

  -- ---- machine

  abbrev pub box_under : List Filter → Machine
  box_under fs =
      record {
        State = State;
        same = same_state;
        asks = λ s. asks (question_of s);
        step = λ o s. step_under fs o s;
        question = λ s. question_words (question_of s);
        sure = λ s. sure_set_under fs s;
        out = λ s. out_set fs s;
      }

  unfoldable pub states_under : List Filter → List State
  states_under fs = visit (box_under fs) (levels_of fs) [] (start_under fs)

  unfoldable pub records_under : List Filter → List ℕ
  records_under fs = records_of (box_under fs) (states_under fs)

  -- ---- builder

  unfoldable pub placed_under : List Filter → List ℕ → List ℕ → Left
  placed_under fs t s =
      record {
        answer = Ok (length (states_under fs));
        table = records_under fs ++ drop (length (records_under fs)) t;
        scratch = cleared (scratch_words t) s;
      }

  unfoldable pub by_room_under : List Filter → List ℕ → List ℕ → Left
  by_room_under fs t s =
      cond (ltb (length s) (scratch_words t)) (refused (unplaced ScratchRoom) t s)
      (cond (ltb (slots_of t) (length (states_under fs))) (no_room t s) (placed_under fs t s))

  unfoldable pub outcome_by_under : Listed → List ℕ → List ℕ → List ℕ → Left
  outcome_by_under (Err r) l t s = refused r t s
  outcome_by_under (Ok c) l t s = by_room_under (filters_of l) t s

  unfoldable pub outcome_under : List ℕ → List ℕ → List ℕ → Left
  outcome_under l t s = outcome_by_under (listed l) l t s
