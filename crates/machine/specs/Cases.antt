-- Document 01's printed example, and a list whose remaining tests must be compared without their places, worked out by the definitions.
-- Assumes nothing.
use Rattle.std.specs.Prelude.{ℕ, ◌≡◌, refl, List, [], ◌∷◌, length}
use Rattle.residue.specs.Residues as RR
use Rattle.residue.specs.Facts as FF
use Rattle.residue.specs.Tests as TT
use Rattle.fields.specs.Widths as WW
use Rattle.sets.specs.Sets as SS
use Rattle.lists.specs.Filters as LF
use Rattle.lists.specs.Ranks as LR
use Rattle.lists.specs.Words as LW
use Rattle.states.specs.States as ST
use Rattle.states.specs.Same as SM
use Rattle.states.specs.Runs as SA
use Rattle.tables.specs.Tables as TB
use Rattle.automaton.specs.Machines as MM
use Rattle.slots.specs.Words as SL
use Rattle.machine.specs.Box as BX

-- Echo request; echo reply with time to live 1; time to live 1: in the groups and levels given, and as printed.
unfoldable pub echo_in : ℕ → ℕ → ℕ → ℕ → ℕ → ℕ → List ℕ
echo_in g l g' l' g'' l'' =
    g ∷ l ∷ 1 ∷ 1 ∷ 11 ∷ 255 ∷ 8 ∷
    g' ∷ l' ∷ 2 ∷ 1 ∷ 11 ∷ 255 ∷ 0 ∷ 1 ∷ 4 ∷ 255 ∷ 1 ∷
    g'' ∷ l'' ∷ 1 ∷ 1 ∷ 4 ∷ 255 ∷ 1 ∷ []

unfoldable pub echo : List ℕ
echo = echo_in 1 0 2 0 3 0

-- Its ten records.
unfoldable pub echo_table : List ℕ
echo_table =
    1 ∷ 11 ∷ 255 ∷ 8 ∷ 1 ∷ 4 ∷ 8 ∷ 0 ∷ 0 ∷ 0 ∷ 0 ∷
    1 ∷ 4 ∷ 255 ∷ 1 ∷ 2 ∷ 3 ∷ 3 ∷ 1 ∷ 0 ∷ 2 ∷ 0 ∷
    0 ∷ 0 ∷ 0 ∷ 0 ∷ 0 ∷ 0 ∷ 0 ∷ 5 ∷ 0 ∷ 2 ∷ 0 ∷
    0 ∷ 0 ∷ 0 ∷ 0 ∷ 0 ∷ 0 ∷ 0 ∷ 1 ∷ 0 ∷ 6 ∷ 0 ∷
    1 ∷ 11 ∷ 255 ∷ 0 ∷ 5 ∷ 8 ∷ 8 ∷ 0 ∷ 0 ∷ 1 ∷ 0 ∷
    1 ∷ 4 ∷ 255 ∷ 1 ∷ 6 ∷ 7 ∷ 7 ∷ 0 ∷ 0 ∷ 1 ∷ 0 ∷
    0 ∷ 0 ∷ 0 ∷ 0 ∷ 0 ∷ 0 ∷ 0 ∷ 6 ∷ 0 ∷ 1 ∷ 0 ∷
    0 ∷ 0 ∷ 0 ∷ 0 ∷ 0 ∷ 0 ∷ 0 ∷ 0 ∷ 0 ∷ 7 ∷ 0 ∷
    1 ∷ 4 ∷ 255 ∷ 1 ∷ 9 ∷ 7 ∷ 7 ∷ 0 ∷ 0 ∷ 3 ∷ 0 ∷
    0 ∷ 0 ∷ 0 ∷ 0 ∷ 0 ∷ 0 ∷ 0 ∷ 4 ∷ 0 ∷ 3 ∷ 0 ∷ []

-- Two filters that ask the same after their first tests, and one that takes both apart.
unfoldable pub unplaced : List ℕ
unplaced =
    1 ∷ 0 ∷ 2 ∷ 1 ∷ 13 ∷ 48 ∷ 16 ∷ 1 ∷ 4 ∷ 255 ∷ 1 ∷
    2 ∷ 0 ∷ 2 ∷ 1 ∷ 13 ∷ 48 ∷ 32 ∷ 1 ∷ 4 ∷ 255 ∷ 1 ∷
    3 ∷ 0 ∷ 2 ∷ 2 ∷ 13 ∷ 19 ∷ 19 ∷ 2 ∷ 13 ∷ 35 ∷ 35 ∷ []

pub echo_records : BX.records_in (LF.filters_of echo) ≡ echo_table
unfolding echo echo_in echo_table BX.states_of BX.records_in MM.visit MM.visit_ways MM.meets MM.place_of MM.nexts_of MM.record_of MM.flat MM.records_of TB.record_with TB.as_words LF.filters_of LF.filters_from LF.items_of LF.filter_of LF.item_of LF.test_of LF.tests_in LW.item_words LW.kind_of LW.mask_of LW.value_of LR.above LR.outranks ST.start ST.question_of ST.step ST.step_by ST.step_at ST.closed ST.closed_from ST.beaten ST.cut ST.cut_standing ST.keep ST.join ST.is_held ST.is_out ST.sure ST.sure_set ST.out_set ST.all_left SM.same_list SM.same_item SM.same_standing SM.same_state SA.asks SL.question_words SS.set_of SS.tally SS.some RR.residue_by RR.from_equal RR.from_masked RR.from_differs RR.from_at_most RR.from_at_least RR.covers RR.reduced_equal RR.reduced_differs RR.outside RR.settled FF.fact_of FF.fails_fact TT.holds WW.full WW.width
echo_records = refl

pub unplaced_states : length (BX.states_of (LF.filters_of unplaced)) ≡ 15
unfolding unplaced BX.states_of BX.records_in MM.visit MM.visit_ways MM.meets MM.place_of MM.nexts_of MM.record_of MM.flat MM.records_of TB.record_with TB.as_words LF.filters_of LF.filters_from LF.items_of LF.filter_of LF.item_of LF.test_of LF.tests_in LW.item_words LW.kind_of LW.mask_of LW.value_of LR.above LR.outranks ST.start ST.question_of ST.step ST.step_by ST.step_at ST.closed ST.closed_from ST.beaten ST.cut ST.cut_standing ST.keep ST.join ST.is_held ST.is_out ST.sure ST.sure_set ST.out_set ST.all_left SM.same_list SM.same_item SM.same_standing SM.same_state SA.asks SL.question_words SS.set_of SS.tally SS.some RR.residue_by RR.from_equal RR.from_masked RR.from_differs RR.from_at_most RR.from_at_least RR.covers RR.reduced_equal RR.reduced_differs RR.outside RR.settled FF.fact_of FF.fails_fact TT.holds WW.full WW.width
unplaced_states = refl
