-- A frame's walk over a built table: the table is labelled by the list's states, so demands 2 and 3 hold of it as of every labelled table; its questions are document 01's, so its path is.
-- Assumes nothing.
use Rattle.std.specs.Prelude.{ℕ, ◌≤◌, ◌<◌, ◌/◌, ◌≡◌, ◌⊎◌, true, false, not, ◌&&◌, List, length, drop, Option, Ok}
use Rattle.std.proofs.Common.{arith, sym, ap, ◌∙◌}
use Rattle.std.proofs.Math.Nat.{min-le_right}
use Rattle.fields.specs.Fields.{field}
use Rattle.fields.specs.Seen.{seen}
use Rattle.fields.specs.declared.Seen.{Seen}
use Rattle.sets.specs.Sets.{member}
use Rattle.lists.specs.Filters.{Filter, filters_of, tests_in}
use Rattle.lists.specs.Ranks.{matches}
use Rattle.states.specs.States.{start, is_open}
use Rattle.states.specs.Runs.{asked_in}
use Rattle.states.proofs.laws.Truth.{InWidths}
use Rattle.states.specs.inner.Choices.{Picked}
use Rattle.states.proofs.laws.Keeps.{question_left}
use Rattle.states.proofs.laws.Paths.{after}
use Rattle.tables.specs.Tables.{record_words, max_slots, slots_of}
use Rattle.machine.specs.Box.{records_in}
use Rattle.matcher.specs.Walk.{found, is_done}
use Rattle.scanner.specs.Scan.{scanned}
use Rattle.scanner.proofs.laws.Scans.{scanned_set}
use Rattle.lamp.specs.Lamp.{numbers_of, lamp_of}
use Rattle.builder.specs.Outcome.{refusal_of, number_of, placed, outcome}
use Rattle.labels.specs.Labels.{shown_at, readings, met_in, Legal}
use Rattle.labels.specs.inner.Labelled.{LabelledBy}
use Rattle.labels.proofs.laws.Truths.{Shows, open_member, seen_field, legal_widths, labelled_shows, labelled_keeps, picked_run, shows_done, shows_matches, shows_set, shows_settled, shows_sure, shows_out, shows_asked}
use Rattle.demands.specs.laws.Labelled.{built_labelled}
use Rattle.demands.specs.laws.Lamps.{labelled_lamp}
use Rattle.demands.specs.laws.Builds.{Success, build_success}
use Rattle.demands.specs.Settled.{walked}

few_slots : (t : List ℕ) (m : ℕ) → m ≤ slots_of t → m ≤ max_slots
unfolding slots_of
few_slots t m l = omega (arith, min-le_right (length t / record_words) max_slots)

module _ (l t s : List ℕ) (built : refusal_of (outcome l t s).answer ≡ 0) where
  abbrev fs : List Filter
  fs = filters_of l

  success : Success l t s
  success = build_success l t s built

  pub table_labelled : LabelledBy Picked fs (outcome l t s).table (number_of (outcome l t s).answer)
  unfolding placed
  table_labelled = rw success.left (built_labelled fs success.well (drop (length (records_in fs)) t) (few_slots t _ success.fits))

  module _ (f : List ℕ) (p : ℕ) (legal : Legal f p) where
    abbrev r : ℕ → Option ℕ
    r = field f p

    abbrev v : ℕ → Seen
    v = seen f p

    shows : (a : ℕ) → Shows Picked fs v a (walked l t s f p a)
    shows = labelled_shows question_left success.well table_labelled f p legal

    widths : InWidths (readings v)
    widths = legal_widths f p legal

    pub exact : (a : ℕ) → walked l t s f p a ≡ shown_at fs (after fs r a) (asked_in fs r a (start fs)) (met_in fs v a (start fs))
    exact a = rw (seen_field f p) at (picked_run (shows a))

    pub all_done : (a : ℕ) → tests_in fs ≤ a → is_done (walked l t s f p a) ≡ true
    all_done a = shows_done question_left success.well widths (shows a)

    pub all_matches : (a : ℕ) → tests_in fs ≤ a → (i : ℕ) → member i (found (walked l t s f p a)).sure ≡ matches fs r i
    all_matches a enough i = rw (seen_field f p) at (shows_matches question_left success.well widths (shows a) enough i)

    pub all_scanned : (a : ℕ) → tests_in fs ≤ a → scanned l f p ≡ Ok (found (walked l t s f p a)).sure
    all_scanned a enough =
        scanned_set l f p _ success.listing.2 legal.short ∙
        ap Ok (sym (rw (seen_field f p) at (shows_set question_left success.well widths (shows a) enough)))

    pub all_lamps : (numbers_of (lamp_of l f p (outcome l t s).table (number_of (outcome l t s).answer))).refusal ≡ 0
    all_lamps = labelled_lamp l f p _ _ success.listing.0 success.listing.1 success.listing.2 legal.short table_labelled

    pub sure_so : (a i : ℕ) → member i (found (walked l t s f p a)).sure ≡ true → matches fs r i ≡ true
    sure_so a i e = rw (seen_field f p) at (shows_sure question_left success.well widths (shows a) i e)

    pub out_so : (a i : ℕ) → member i (found (walked l t s f p a)).out ≡ true → matches fs r i ≡ false
    out_so a i e = rw (seen_field f p) at (shows_out question_left success.well widths (shows a) i e)

    pub sure_kept : (a a' i : ℕ) → a ≤ a' → member i (found (walked l t s f p a)).sure ≡ true → member i (found (walked l t s f p a')).sure ≡ true
    sure_kept a a' i more = (labelled_keeps question_left success.well table_labelled f p legal a a' i more).0

    pub out_kept : (a a' i : ℕ) → a ≤ a' → member i (found (walked l t s f p a)).out ≡ true → member i (found (walked l t s f p a')).out ≡ true
    out_kept a a' i more = (labelled_keeps question_left success.well table_labelled f p legal a a' i more).1

    pub none_left :
        (a : ℕ) → tests_in fs ≤ a → (i : ℕ) → i < length fs →
        (member i (found (walked l t s f p a)).sure ≡ true) ⊎ (member i (found (walked l t s f p a)).out ≡ true)
    none_left a = shows_settled question_left success.well widths (shows a)

    -- In neither set is open.
    pub open_so : (a i : ℕ) → i < length fs → (not (member i (found (walked l t s f p a)).sure) && not (member i (found (walked l t s f p a)).out)) ≡ is_open fs (after fs r a) i
    open_so a i inside = rw (exact a) (open_member fs (after fs r a) (asked_in fs r a (start fs)) (met_in fs v a (start fs)) i inside)

    pub asked_few : (a : ℕ) → ((found (walked l t s f p a)).asked ≤ a) × ((found (walked l t s f p a)).asked ≤ tests_in fs)
    asked_few a = shows_asked question_left success.well widths (shows a)
