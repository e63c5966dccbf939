-- A list under any ranking beside a list under the present one: where their tests are the same and their filters rank alike, all that is worked out is the same.
--   RanksAlike ranks fs gs   the tests of fs are those of gs, and ranks says of fs what `above` says of gs
--   match_set_alike, states_alike, records_alike, outcome_alike   so match sets, states, records and what building comes to are the same
--   moved_alike              a list of group 0 under the old ranking, beside the same in another group
--   present_alike            a list under the present ranking, beside itself
use Rattle.std.specs.Prelude.{ℕ, ◌+◌, ◌≤◌, ◌<◌, ◌≡◌, Bool, true, ◌&&◌, eqb, length, get_or, Option, Ok, Err}
use Rattle.std.proofs.Common.{arith, ◌∙◌, eq-eqb}
use Rattle.std.proofs.Math.Path.{refl, sym, ap, ap₂}
use Rattle.std.proofs.Math.Bool.{cond, not}
use mathlib.Core.List.{List, [], ◌∷◌, map, map-map}
use Rattle.std.proofs.Math.Dec.{ltb}
use Rattle.std.proofs.lemmas.List.{length-map}
use Rattle.std.proofs.Math.ListN.{get_or-map}
use Rattle.residue.specs.declared.Outcome.{Outcome}
use Rattle.residue.specs.Facts.{fact_of}
use Rattle.fields.specs.Widths.{full}
use Rattle.sets.specs.Sets.{set_of, tally, some}
use Rattle.sets.specs.laws.Members.{tally_ext, some_ext}
use Rattle.lists.specs.Filters.{Item, Filter, filters_of, tests_in}
use Rattle.lists.specs.Refusals.{Listed, listed}
use Rattle.lists.specs.Ranks.{no_filter, level_of, tests_of, outranks, above, all_hold, fires, matches, match_set}
use Rattle.lists.specs.inner.Well.{well_filters}
use Rattle.lists.specs.inner.Moved.{all_in, in_group, moved}
use Rattle.lists.specs.laws.Accepted.{accepted_well}
use Rattle.lists.specs.laws.Moved.{group_in_lem, at_moved}
use Rattle.states.specs.States.{State, out, left, standing, is_held, is_out, cut_standing, all_left, beaten, closed_from, closed, start, Question, nothing, ask, question_of, step_by, step_at, step, sure, sure_set, out_set}
use Rattle.automaton.specs.Machines.{record_of, flat, records_of}
use Rattle.automaton.proofs.laws.Lists.{each_nil}
use Rattle.automaton.proofs.laws.Visited.{visits_exist, visits_visit}
use Rattle.automaton.proofs.laws.Carrying.{Carried, SameCarried, visits_carried, each_record_carried}
use Rattle.machine.specs.Box.{box_of, states_of, records_in}
use Rattle.machine.specs.inner.Good.{Good}
use Rattle.machine.proofs.laws.Lawful.{good_start, box_lawful, enough, states_good}
use Rattle.builder.specs.Outcome.{placed, by_room, outcome_by, outcome}
use Rattle.demands.specs.inner.OldRanks.{Ranking, old_outranks, old_above, matches_under, match_set_under, beaten_under, closed_from_under, closed_under, start_under, step_by_under, step_at_under, step_under, sure_under, sure_set_under, box_under, states_under, records_under, placed_under, by_room_under, outcome_by_under, outcome_under}

abbrev tests_at : Filter → List Item
tests_at f = f.tests

pub record RanksAlike (ranks : Ranking) (fs gs : List Filter) : Type 0 where
  pub tests : map tests_at fs ≡ map tests_at gs
  pub ranked : (j i : ℕ) → j < length fs → i < length fs → ranks fs j i ≡ above gs j i

abbrev total : List (List Item) → ℕ
total [] = 0
total (ts ∷ tss) = length ts + total tss

tests_total : (fs : List Filter) → tests_in fs ≡ total (map tests_at fs)
unfolding tests_in
tests_total [] = refl
tests_total (f ∷ fs) = ap (λ (n : ℕ). length f.tests + n) (tests_total fs)

map_self : {A : Type 0} (l : List A) → map (λ x. x) l ≡ l
map_self [] = refl
map_self {A} (x ∷ l) = ap (λ (r : List A). x ∷ r) (map_self l)

module _ (ranks : Ranking) (fs gs : List Filter) (same : RanksAlike ranks fs gs) where
  length_alike : length fs ≡ length gs
  length_alike = sym (length-map fs tests_at) ∙ ap length same.tests ∙ length-map gs tests_at

  tests_alike : (i : ℕ) → tests_of fs i ≡ tests_of gs i
  tests_alike i =
      sym (get_or-map tests_at fs i no_filter) ∙ ap (λ (tss : List (List Item)). get_or tss i []) same.tests ∙ get_or-map tests_at gs i no_filter

  count_alike : tests_in fs ≡ tests_in gs
  count_alike = tests_total fs ∙ ap total same.tests ∙ sym (tests_total gs)

  -- One of the filters that rank above a filter of the list.
  some_alike :
      (i : ℕ) → i < length fs → (p q : ℕ → Bool) → ((j : ℕ) → p j ≡ q j) →
      some (length fs) (λ j. ranks fs j i && p j) ≡ some (length gs) (λ j. above gs j i && q j)
  some_alike i l p q h =
      some_ext (length fs) (λ j. ranks fs j i && p j) (λ j. above gs j i && q j) (λ j m. ap₂ (λ (a b : Bool). a && b) (same.ranked j i m l) (h j)) ∙
      ap (λ (n : ℕ). some n (λ j. above gs j i && q j)) length_alike

  set_alike : (p q : ℕ → Bool) → ((i : ℕ) → i < length fs → p i ≡ q i) → set_of (tally (length fs) p) ≡ set_of (tally (length gs) q)
  set_alike p q h = ap set_of (tally_ext (length fs) p q h ∙ ap (λ (n : ℕ). tally n q) length_alike)

  -- ---- the match set

  fires_alike : (r : ℕ → Option ℕ) (i : ℕ) → fires fs r i ≡ fires gs r i
  unfolding fires
  fires_alike r i = ap₂ (λ (n : ℕ) (ts : List Item). ltb i n && all_hold r ts) length_alike (tests_alike i)

  matches_alike : (r : ℕ → Option ℕ) (i : ℕ) → i < length fs → matches_under ranks fs r i ≡ matches gs r i
  unfolding matches_under matches
  matches_alike r i l =
      ap₂ (λ (a b : Bool). a && not b) (fires_alike r i) (some_alike i l (λ j. fires fs r j) (λ j. fires gs r j) (fires_alike r))

  pub match_set_alike : (r : ℕ → Option ℕ) → match_set_under ranks fs r ≡ match_set gs r
  unfolding match_set_under match_set
  match_set_alike r = set_alike (λ i. matches_under ranks fs r i) (λ i. matches gs r i) (matches_alike r)

  -- ---- states

  beaten_alike : (s : State) (i : ℕ) → i < length fs → beaten_under ranks fs s i ≡ beaten gs s i
  unfolding beaten_under beaten
  beaten_alike s i l = some_alike i l (λ j. is_held (standing s j)) (λ j. is_held (standing s j)) (λ j. refl)

  from_alike : (s : State) (i : ℕ) (xs : State) → i + length xs ≤ length fs → closed_from_under ranks fs s i xs ≡ closed_from gs s i xs
  unfolding closed_from_under closed_from
  from_alike s i [] l = refl
  from_alike s i (x ∷ xs) l =
      ap₂ (λ (b : Bool) (ys : State). cond b out x ∷ ys) (beaten_alike s i (omega arith)) (from_alike s (i + 1) xs (omega arith))

  closed_alike : (s : State) → length s ≡ length fs → closed_under ranks fs s ≡ closed gs s
  unfolding closed_under closed
  closed_alike s l = from_alike s 0 s (omega arith)

  pub start_alike : start_under ranks fs ≡ start gs
  unfolding start_under start all_left
  start_alike =
      let all : map all_left fs ≡ map all_left gs = sym (map-map left tests_at fs) ∙ ap (map left) same.tests ∙ map-map left tests_at gs in
      closed_alike (map all_left fs) (length-map fs all_left) ∙ ap (closed gs) all

  step_at_alike : (o : Outcome) (a : Question) (s : State) → length s ≡ length fs → step_at_under ranks fs o a s ≡ step_at gs o a s
  unfolding step_at_under step_at step_by_under step_by
  step_at_alike o nothing s l = refl
  step_at_alike o (ask q) s l =
      let cuts = cut_standing q.field (fact_of (full q.field) o q.test) in
      closed_alike (map cuts s) (length-map s cuts ∙ l)

  step_alike : (o : Outcome) (s : State) → length s ≡ length fs → step_under ranks fs o s ≡ step gs o s
  unfolding step_under step
  step_alike o s l = step_at_alike o (question_of s) s l

  sure_alike : (s : State) (i : ℕ) → i < length fs → sure_under ranks fs s i ≡ sure gs s i
  unfolding sure_under sure
  sure_alike s i l =
      ap (λ (b : Bool). is_held (standing s i) && not b)
      (some_alike i l (λ j. not (is_out (standing s j))) (λ j. not (is_out (standing s j))) (λ j. refl))

  sure_set_alike : (s : State) → sure_set_under ranks fs s ≡ sure_set gs s
  unfolding sure_set_under sure_set
  sure_set_alike s = set_alike (λ i. sure_under ranks fs s i) (λ i. sure gs s i) (sure_alike s)

  out_set_alike : (s : State) → out_set fs s ≡ out_set gs s
  unfolding out_set
  out_set_alike s = set_alike (λ i. is_out (standing s i)) (λ i. is_out (standing s i)) (λ i l. refl)

  -- ---- the machine of a well-formed list

  module _ (well : well_filters gs ≡ true) where
    box_same : SameCarried (box_of gs) (box_under ranks fs) (Good gs) (λ s. s)
    box_same = record { same_carried = λ a b g h. refl }

    box_carried : Carried (box_of gs) (box_under ranks fs) (Good gs) (λ s. s)
    box_carried =
        record {
          asks_carried = λ s g. refl;
          step_carried = λ o s g e. step_alike o s (g.each ∙ sym length_alike);
          question_carried = λ s g. refl;
          sure_carried = λ s g. sure_set_alike s;
          out_carried = λ s g. out_set_alike s;
        }

    pub states_alike : states_under ranks fs ≡ states_of gs
    unfolding states_under states_of
    states_alike =
        let good = good_start gs well in
        let v = visits_exist (box_lawful gs) (tests_in gs) [] (start gs) good (enough gs well) in
        rw (count_alike, start_alike)
        (visits_visit (visits_carried (box_lawful gs) box_carried box_same v.1 (each_nil (Good gs)) good) ∙ map_self v.0 ∙ sym (visits_visit v.1))

    pub records_alike : records_under ranks fs ≡ records_in gs
    unfolding records_under records_in records_of
    records_alike =
        let met = states_of gs in
        let all = states_good gs well in
        let each : map (record_of (box_under ranks fs) met) met ≡ map (record_of (box_of gs) met) met =
        rw (map_self met) at (each_record_carried (box_lawful gs) box_carried box_same met met all all) in
        rw states_alike (ap flat each)

    by_room_alike : (t s : List ℕ) → by_room_under ranks fs t s ≡ by_room gs t s
    unfolding by_room_under by_room placed_under placed
    by_room_alike t s = rw (states_alike, records_alike)

-- Two runs of words that are accepted or refused alike.
pub outcome_alike :
    (ranks : Ranking) (l l' : List ℕ) → RanksAlike ranks (filters_of l) (filters_of l') → listed l ≡ listed l' →
    (t s : List ℕ) → outcome_under ranks l t s ≡ outcome l' t s
unfolding outcome_under outcome outcome_by_under outcome_by
outcome_alike ranks l l' same e t s = ap (λ (x : Listed). outcome_by_under ranks x l t s) e ∙ go (listed l') refl
  where
    go : (x : Listed) → listed l' ≡ x → outcome_by_under ranks x l t s ≡ outcome_by x l' t s
    go (Err r) z = refl
    go (Ok c) z = by_room_alike ranks (filters_of l) (filters_of l') same (accepted_well l' c.filters c.tests z) t s

-- ---- which lists are alike

outranks_moved : (g l i m j : ℕ) → not (eqb g 0) ≡ true → old_outranks 0 l i 0 m j ≡ outranks g l i g m j
unfolding old_outranks outranks
outranks_moved g l i m j some = rw (some, eq-eqb g g refl)

moved_ranked :
    (g : ℕ) → not (eqb g 0) ≡ true → (fs : List Filter) → all_in 0 fs ≡ true → (j i : ℕ) → j < length fs → i < length fs → old_above fs j i ≡ above (moved g fs) j i
unfolding old_above above in_group
moved_ranked g some fs alone j i l m =
    ap₂ (λ (a b : ℕ). old_outranks a (level_of fs j) j b (level_of fs i) i) (group_in_lem 0 fs alone j l) (group_in_lem 0 fs alone i m) ∙
    outranks_moved g (level_of fs j) j (level_of fs i) i some ∙
    sym (ap₂ (λ (a b : Filter). outranks a.group a.level j b.group b.level i) (at_moved g fs j l) (at_moved g fs i m))

pub moved_alike : (g : ℕ) → not (eqb g 0) ≡ true → (fs : List Filter) → all_in 0 fs ≡ true → RanksAlike old_above fs (moved g fs)
unfolding moved in_group
moved_alike g some fs alone = record { tests = sym (map-map tests_at (in_group g) fs); ranked = moved_ranked g some fs alone }

pub present_alike : (fs : List Filter) → RanksAlike above fs fs
present_alike fs = record { tests = refl; ranked = λ j i l m. refl }
