-- The customer's demands 2 and 3, and what change requests add, each as one statement with a name that proves it. Definitions are those of the lower crates, in document 01's order:
-- filters_of a list's filters, matches the match set, states_of a list's states, outcome what building answers and leaves, walk what classifying answers.
--   l t s     the list's words, the table and the scratch that are lent to the build
--   f p a     a frame's bytes, the box port and the allowance
--   fs b      the list's filters, and what building it comes to
--   w         the walk of the frame over what was built, at each allowance
--   vs d ts   a gateway's verdict table, its standing verdict and its tallies
--   j         the frame judged over what was built
--   shown_at   what document 01 shows of a state that a walk ends in: done or stopped, its sure set, its out set, the questions asked; and document 02's mark
use Rattle.std.specs.Prelude.{ℕ, ◌≤◌, ◌<◌, ◌≡◌, ◌⊎◌, true, false, not, ◌&&◌, List, eqb, length, Result, Ok, Err}
use Rattle.refusals.specs.declared.Refusal.{Refusal}
use Rattle.residue.specs.declared.Outcome.{Outcome}
use Rattle.fields.specs.Bytes.{Bytes}
use Rattle.fields.specs.Fields.{field}
use Rattle.fields.specs.Cut.{SeenAs}
use Rattle.fields.specs.Seen.{seen}
use Rattle.fields.specs.Steering.{SteerAlike}
use Rattle.fields.proofs.laws.Agree.{seen_alike}
use Rattle.fields.proofs.laws.Cut.{seen_as}
use Rattle.fields.proofs.laws.Values.{value_in_width}
use Rattle.sets.specs.Sets.{bit, member}
use Rattle.lists.specs.Filters.{max_filters, Item, Filter, filters_of, tests_in}
use Rattle.lists.specs.Ranks.{matches, match_set}
use Rattle.lists.specs.Refusals.{counts, listed}
use Rattle.lists.specs.laws.Accepted.{accepted_well}
use Rattle.states.specs.States.{State, start, ask, question_of, step, is_open}
use Rattle.states.specs.Runs.{run, asked_in, follow}
use Rattle.states.specs.Runs.{asks_all}
use Rattle.states.proofs.laws.Measure.{path_tests}
use Rattle.automaton.specs.Machines.{meets}
use Rattle.automaton.specs.Lawful.{Reached, Distinct}
use Rattle.tables.specs.Tables.{slots_of}
use Rattle.machine.specs.Box.{box_of, states_of}
use Rattle.machine.proofs.laws.Lawful.{states_distinct, states_reached, reached_states}
use Rattle.states.proofs.laws.Well.{well_start, well_follow}
use Rattle.matcher.specs.declared.Walk.{Walk}
use Rattle.matcher.proofs.laws.Marks.{mark_lasts}
use Rattle.matcher.specs.Walk.{found, is_done, damaged, walk}
use Rattle.scanner.specs.Scan.{scanned}
use Rattle.lamp.specs.Lamp.{Numbers, numbers_of, is_as_is, lamp_ends, lamp_of}
use Rattle.lamp.proofs.laws.Truths.{lamp_shows, shows_lit, shows_asked}
use Rattle.gateway.specs.Gateway.{tally_count, verdicts_fit, Judgement, counted_at, judged}
use Rattle.gateway.specs.Events.{Event, sum_of, opened, book_over}
use Rattle.gateway.proofs.laws.Events.{runs_add_up}
use Rattle.captures.specs.Replay.{most_count, last_four, replayed, text_replayed}
use Rattle.captures.specs.Parts.{played, joined}
use Rattle.captures.specs.laws.Tallies.{adds_up}
use Rattle.captures.specs.laws.Whole.{played_whole}
use Rattle.builder.specs.Outcome.{refusal_of, number_of, Left, scratch_words, outcome}
use Rattle.labels.specs.Labels.{shown_at, met_in, Legal}
use Rattle.demands.specs.laws.Builds.{build_full, build_fits}
use Rattle.demands.specs.laws.Contents.{same_walk, same_scan, same_lamp, same_judged}
use Rattle.demands.specs.laws.Gateway.{verdict_first, verdict_standing}
use Rattle.demands.specs.laws.Lamps.{damage_refused}
use Rattle.demands.specs.laws.Settled.{exact, all_done, all_matches, all_scanned, all_lamps, open_so, sure_so, out_so, sure_kept, out_kept, none_left, asked_few}
use Rattle.demands.specs.laws.Paths.{once}

module _ (l t s : List ℕ) where
  abbrev fs : List Filter
  fs = filters_of l

  abbrev b : Left
  b = outcome l t s

  -- A list that is built, and a frame that is not refused.
  module _ (built : refusal_of b.answer ≡ 0) (f : List ℕ) (p : ℕ) (legal : Legal f p) where
    abbrev w : ℕ → Result Walk Refusal
    w a = walk f p b.table (number_of b.answer) a

    -- Demand 2: with an allowance of the list's tests the walk is done, and a filter is sure exactly where it is in the match set.
    pub demand_2 : (a : ℕ) → tests_in fs ≤ a → (is_done (w a) ≡ true) × ((i : ℕ) → member i (found (w a)).sure ≡ matches fs (field f p) i)
    demand_2 a enough = (all_done l t s built f p legal a enough, all_matches l t s built f p legal a enough)

    -- Change request P1: then the scanner, which has no table, names the same set.
    pub scanner_agrees : (a : ℕ) → tests_in fs ≤ a → scanned l f p ≡ Ok (found (w a)).sure
    scanner_agrees = all_scanned l t s built f p legal

    -- Change request P4: the lamp is not refused over what was built.
    pub lamp_built : (numbers_of (lamp_of l f p b.table (number_of b.answer))).refusal ≡ 0
    lamp_built = all_lamps l t s built f p legal

    -- Change request P5: with a tally room and verdicts that are not refused, the frame is counted and judged at the lowest-numbered filter
    -- of its match set, or behind the filters where the set is empty. Only a full tally there refuses it.
    module _ (vs : List ℕ) (d : ℕ) (ts : List ℕ) (room : length ts ≡ tally_count) (fit : verdicts_fit vs d ≡ true) where
      abbrev j : Judgement
      j = judged f p b.table (number_of b.answer) vs d ts

      pub gateway_first : (i : ℕ) → matches fs (field f p) i ≡ true → ((k : ℕ) → k < i → matches fs (field f p) k ≡ false) → j ≡ counted_at i vs d ts
      gateway_first = verdict_first l t s built f p legal vs d ts room fit

      pub gateway_standing : ((k : ℕ) → matches fs (field f p) k ≡ false) → j ≡ counted_at max_filters vs d ts
      gateway_standing = verdict_standing l t s built f p legal vs d ts room fit

    -- Demand 3: whatever the allowance, end, sets and count are those of the state that the residue rules reach by that many questions at most.
    -- Change request P7: the mark says whether some of these questions met a cut field.
    pub demand_3_exact : (a : ℕ) → w a ≡ shown_at fs (run fs (field f p) a (start fs)) (asked_in fs (field f p) a (start fs)) (met_in fs (seen f p) a (start fs))
    demand_3_exact = exact l t s built f p legal

    -- A filter of the list is in neither set exactly where it is open in that state.
    pub demand_3_open : (a i : ℕ) → i < length fs → (not (member i (found (w a)).sure) && not (member i (found (w a)).out)) ≡ is_open fs (run fs (field f p) a (start fs)) i
    demand_3_open = open_so l t s built f p legal

    -- A filter that is sure is in the match set, and one that is out is not.
    pub demand_3_sure : (a i : ℕ) → member i (found (w a)).sure ≡ true → matches fs (field f p) i ≡ true
    demand_3_sure = sure_so l t s built f p legal

    pub demand_3_out : (a i : ℕ) → member i (found (w a)).out ≡ true → matches fs (field f p) i ≡ false
    demand_3_out = out_so l t s built f p legal

    -- A greater allowance takes neither back.
    pub demand_3_stays : (a a' i : ℕ) → a ≤ a' → (member i (found (w a)).sure ≡ true → member i (found (w a')).sure ≡ true) × (member i (found (w a)).out ≡ true → member i (found (w a')).out ≡ true)
    demand_3_stays a a' i more = (sure_kept l t s built f p legal a a' i more, out_kept l t s built f p legal a a' i more)

    -- With an allowance of the list's tests no filter is left open.
    pub demand_3_settled : (a : ℕ) → tests_in fs ≤ a → (i : ℕ) → i < length fs → (member i (found (w a)).sure ≡ true) ⊎ (member i (found (w a)).out ≡ true)
    demand_3_settled = none_left l t s built f p legal

    -- No more questions are asked than allowed, nor than the list has tests.
    pub demand_3_asked : (a : ℕ) → ((found (w a)).asked ≤ a) × ((found (w a)).asked ≤ tests_in fs)
    demand_3_asked = asked_few l t s built f p legal

  -- An accepted list.
  module _ (n k : ℕ) (accepted : listed l ≡ Ok (counts n k)) where
    -- Demand 2, last sentence: with scratch enough for the slots it is refused for want of room exactly where it has more states than the table has slots; else it is built.
    pub demand_2_room : scratch_words t ≤ length s → (refusal_of b.answer ≡ 11 → slots_of t < length (states_of fs)) × (slots_of t < length (states_of fs) → refusal_of b.answer ≡ 11)
    demand_2_room = build_full l t s n k accepted

    pub demand_2_built : scratch_words t ≤ length s → length (states_of fs) ≤ slots_of t → refusal_of b.answer ≡ 0
    demand_2_built = build_fits l t s n k accepted

    -- These states are distinct, and a state is one of them exactly where outcomes can reach it from the start.
    pub demand_2_distinct : Distinct (box_of fs) (states_of fs)
    demand_2_distinct = states_distinct fs (accepted_well l n k accepted)

    pub demand_2_reached : (x : State) → (meets (box_of fs) (states_of fs) x ≡ true → Reached (box_of fs) (start fs) x) × (Reached (box_of fs) (start fs) x → meets (box_of fs) (states_of fs) x ≡ true)
    demand_2_reached x = (states_reached fs (accepted_well l n k accepted) x, reached_states fs (accepted_well l n k accepted) x)

    -- No path is longer than the list's tests, and none asks the same question twice: q is asked after the outcomes os, and not again after o and os'.
    pub paths_short : (os : List Outcome) → asks_all fs os (start fs) ≡ true → length os ≤ tests_in fs
    paths_short os = path_tests fs os (accepted_well l n k accepted)

    pub paths_once : (os os' : List Outcome) (o : Outcome) (q : Item) → question_of (follow fs os (start fs)) ≡ ask q → question_of (follow fs os' (step fs o (follow fs os (start fs)))) ≡ ask q → ⊥
    paths_once = once fs (accepted_well l n k accepted)

    -- Change request P4: over any table, of any number of states, that is not refused on the way of the frame.
    module _ (f : List ℕ) (p : ℕ) (legal : Legal f p) (table : List ℕ) (m : ℕ) where
      abbrev lamp : Numbers
      lamp = numbers_of (lamp_of l f p table m)

      -- The lamp is lit exactly where the match set is not empty.
      pub lamp_lit : lamp.refusal ≡ 0 → lamp.lit ≡ bit (not (eqb (match_set fs (field f p)) 0))
      lamp_lit = shows_lit fs (field f p) (accepted_well l n k accepted) (value_in_width f p legal.bytes legal.port) (lamp_of l f p table m) (lamp_shows l f p table m n k accepted legal.short)

      -- It asks up to the first state that has a held filter or is final, and no further.
      pub lamp_asked : lamp.refusal ≡ 0 → (lamp_ends (run fs (field f p) lamp.asked (start fs)) ≡ true) × ((j : ℕ) → j < lamp.asked → lamp_ends (run fs (field f p) j (start fs)) ≡ false)
      lamp_asked = shows_asked fs (field f p) (lamp_of l f p table m) (lamp_shows l f p table m n k accepted legal.short)

    -- A damaged record is what document 01 gives for no state that outcomes reach, so the lamp refuses it.
    pub lamp_damage : (table : List ℕ) (i : ℕ) (os : List Outcome) → damaged table i ≡ true → is_as_is table i (question_of (follow fs os (start fs))) ≡ false
    lamp_damage table i os = damage_refused table i (follow fs os (start fs)) (well_follow fs os (start fs) (well_start fs (accepted_well l n k accepted)))

-- Change request P5: over any run of frames and clearings, from a clearing on, the tallies add up to the frames judged since the last clearing.
pub gateway_adds_up : (es : List Event) (ts : List ℕ) → sum_of (book_over es (opened ts)).tallies ≡ (book_over es (opened ts)).frames
gateway_adds_up = runs_add_up

-- Change request P7: a field is cut exactly where it is absent and some longer frame that begins with these bytes has it, the total length alone being free.
pub field_seen : (f : List ℕ) (p n : ℕ) → Bytes f → SeenAs f p n (seen f p n)
field_seen f p n known = seen_as f p known n

-- Over any table a greater allowance that is not refused may set the mark and never clears it.
pub mark_kept :
    (f : List ℕ) (p : ℕ) (t : List ℕ) (m a a' : ℕ) → a ≤ a' → ((r : Refusal) → walk f p t m a' ≡ Err r → ⊥) →
    (found (walk f p t m a)).cut ≡ true → (found (walk f p t m a')).cut ≡ true
mark_kept = mark_lasts

-- Change request P9: job contents do not steer the box. Two frames that steer alike, with one box port, get the same answer, refusals, marks and counts
-- included, whatever the list, the table, its number of states and the allowance; and from equal tallies the same verdict and tallies.
module _ (f g : List ℕ) (alike : SteerAlike f g) (p : ℕ) where
  pub contents_field : (n : ℕ) → seen f p n ≡ seen g p n
  contents_field = seen_alike f g alike p

  pub contents_walk : (t : List ℕ) (m a : ℕ) → walk f p t m a ≡ walk g p t m a
  contents_walk = same_walk f g alike p

  pub contents_scan : (l : List ℕ) → scanned l f p ≡ scanned l g p
  contents_scan = same_scan f g alike p

  pub contents_lamp : (l t : List ℕ) (m : ℕ) → lamp_of l f p t m ≡ lamp_of l g p t m
  contents_lamp = same_lamp f g alike p

  pub contents_judged : (t : List ℕ) (m : ℕ) (vs : List ℕ) (d : ℕ) (ts : List ℕ) → judged f p t m vs d ts ≡ judged g p t m vs d ts
  contents_judged = same_judged f g alike p

-- Change request P10: however a capture comes in parts, the calls of a replay come to what its list's text and the whole file come to.
pub replay_parts : (x : List ℕ) (parts : List (List ℕ)) → played x parts ≡ text_replayed x (joined parts)
replay_parts = played_whole

-- The last four tallies add up to the records read. (A count that has come to 2 ^ 64 - 1 stays there.)
pub replay_adds_up :
    (fs : List Filter) (s : List ℕ) (k : ℕ) → (replayed fs s).answer ≡ Ok k → k < most_count → last_four (length fs) (replayed fs s).counts ≡ k
replay_adds_up = adds_up
