-- What the lamp says is true: it is lit exactly where some filter matches, and it asks no more than it takes to know.
--   held_some, final_none      a held filter of a state that tells the truth means that some filter matches; a final state without one, that none does
--   lamp_shows                 the whole answer for an accepted list: refused, or the end of the frame's path
--   shows_lit, shows_asked     what an answer that is no refusal says of the match set and of the questions
use Rattle.std.specs.Prelude.{ℕ, ◌≤◌, ◌<◌, ◌≡◌, Bool, ◌||◌, List, eqb, length, Option, Ok, Err}
use Rattle.std.proofs.Common.{zero-add, arith, sym, ◌∙◌, subst, ltb-true, ltb-false}
use Rattle.std.proofs.Math.Path.{refl, ap}
use Rattle.std.proofs.Math.Bool.{true, false, not, or-true}
use Rattle.std.proofs.lemmas.Bool.{false≢true}
use Rattle.std.proofs.Math.Dec.{ltb}
use Rattle.fields.specs.Ethernet.{max_frame}
use Rattle.fields.specs.Fields.{field}
use Rattle.sets.specs.Sets.{bit, some}
use Rattle.sets.specs.laws.Members.{zero_tally, some_true, some_where, some_none}
use Rattle.lists.specs.Filters.{Filter, filters_of, tests_in}
use Rattle.lists.specs.Ranks.{matches, match_set}
use Rattle.lists.specs.Refusals.{listed, counts}
use Rattle.lists.specs.inner.Well.{well_filters}
use Rattle.lists.specs.laws.Accepted.{accepted_well}
use Rattle.lists.specs.laws.Topmost.{fires_below, top_matches, topmost}
use Rattle.states.specs.States.{State, standing, is_held, is_out, start, nothing, question_of}
use Rattle.states.specs.Runs.{asks}
use Rattle.states.proofs.laws.Choices.{path_of}
use Rattle.states.proofs.laws.Keeps.{question_left}
use Rattle.states.proofs.laws.Measure.{start_remaining}
use Rattle.states.proofs.laws.Paths.{after, path_truth}
use Rattle.states.proofs.laws.Standings.{standing_beyond}
use Rattle.states.proofs.laws.Sure.{out_not_matches, final_standing}
use Rattle.states.proofs.laws.Truth.{Tells, InWidths, held_fires}
use Rattle.states.proofs.laws.Well.{well_start}
use Rattle.tables.specs.Tables.{slots_of}
use Rattle.lamp.specs.Lamp.{Answer, numbers_of, some_held, lamp_ends, lamp_of}
use Rattle.lamp.specs.declared.Lamp.TheVariants.{Lit, Dark}
use Rattle.refusals.specs.declared.Refusal.TheVariants.{Table}
use Rattle.refusals.specs.Numbers.{number_of}
use Rattle.refusals.specs.laws.Above.{number_above}
use Rattle.lamp.proofs.laws.Turns.{lamp_misfit, lamp_walks}
use Rattle.lamp.proofs.laws.Ends.{LampEnded, LampShows, from_shows}

module _ (fs : List Filter) (r : ℕ → Option ℕ) where
  -- The match set is empty exactly where no filter matches.
  empty_is : eqb (match_set fs r) 0 ≡ not (some (length fs) (λ i. matches fs r i))
  unfolding match_set
  empty_is = zero_tally (length fs) (λ i. matches fs r i)

  module _ (s : State) (tells : Tells fs r s) where
    -- It may be beaten itself, but then one that ranks above it matches.
    held_some : some_held s ≡ true → eqb (match_set fs r) 0 ≡ false
    unfolding some_held
    held_some h =
        let w = some_where (length s) (λ i. is_held (standing s i)) h in
        let p = topmost fs r (length fs) w.0 (held_fires fs r s tells w.0 w.2) in
        let k = p.0 in
        let top = p.1 in
        let m = top_matches fs r k top.fired (λ j a f. top.best j (fires_below fs r j f) a f) in
        empty_is ∙ ap not (some_true (length fs) (λ i. matches fs r i) k (fires_below fs r k top.fired) m)

    module _ (final : question_of s ≡ nothing) (none : some_held s ≡ false) where
      out_at_lem : (i : ℕ) → is_out (standing s i) ≡ true
      unfolding some_held is_out
      out_at_lem i = go (is_out (standing s i)) refl (ltb i (length s)) refl
        where
          go : (b : Bool) → is_out (standing s i) ≡ b → (c : Bool) → ltb i (length s) ≡ c → is_out (standing s i) ≡ true
          go true e c z = e
          go false e true z =
              absurd (false≢true (sym none ∙ some_true (length s) (λ j. is_held (standing s j)) i (ltb-true i (length s) z) (final_standing s final i e)))
          go false e false z = rw (standing_beyond s i (ltb-false i (length s) z))

      final_none : eqb (match_set fs r) 0 ≡ true
      final_none = empty_is ∙ ap not (some_none (length fs) (λ i. matches fs r i) (λ i _. out_not_matches fs r s tells i (out_at_lem i)))

  -- ---- an answer that is no refusal

  module _ (h : well_filters fs ≡ true) (w : InWidths r) where
    truth : {lit : Bool} {j : ℕ} (x : LampEnded fs r 0 (start fs) lit j) → Tells fs r (after fs r x.more)
    truth x = (path_truth fs r h w (path_of fs r question_left x.path)).tells

    ended_lit : {j : ℕ} → LampEnded fs r 0 (start fs) true j → 1 ≡ bit (not (eqb (match_set fs r) 0))
    ended_lit x = rw (held_some (after fs r x.more) (truth x) x.held)

    ended_dark : {j : ℕ} → LampEnded fs r 0 (start fs) false j → 0 ≡ bit (not (eqb (match_set fs r) 0))
    ended_dark x = rw (final_none (after fs r x.more) (truth x) (x.final refl) x.held)

    pub shows_lit : (x : Answer) → LampShows fs r 0 (start fs) x → (numbers_of x).refusal ≡ 0 → (numbers_of x).lit ≡ bit (not (eqb (match_set fs r) 0))
    shows_lit (Ok (Lit j)) x z = ended_lit x
    shows_lit (Ok (Dark j)) x z = ended_dark x
    shows_lit (Err e) x z = absurd (x z)

  -- The first state that ends the walk.
  abbrev First : ℕ → Type 0
  First k = (lamp_ends (after fs r k) ≡ true) × ((j : ℕ) → j < k → lamp_ends (after fs r j) ≡ false)

  ends_at : (s : State) (lit : Bool) → some_held s ≡ lit → (lit ≡ false → question_of s ≡ nothing) → lamp_ends s ≡ true
  unfolding lamp_ends asks
  ends_at s true e f = rw e
  ends_at s false e f = rw (f refl) (or-true (some_held s))

  ended_first : (lit : Bool) (j : ℕ) → LampEnded fs r 0 (start fs) lit j → First j
  ended_first lit j x =
      subst First (sym (x.counted ∙ zero-add x.more)) (ends_at (after fs r x.more) lit x.held x.final, x.before)

  pub shows_asked : (x : Answer) → LampShows fs r 0 (start fs) x → (numbers_of x).refusal ≡ 0 → First (numbers_of x).asked
  shows_asked (Ok (Lit j)) x z = ended_first true j x
  shows_asked (Ok (Dark j)) x z = ended_first false j x
  shows_asked (Err e) x z = absurd (x z)

-- ---- the whole answer

pub lamp_shows :
    (l f : List ℕ) (p : ℕ) (t : List ℕ) (m c k : ℕ) → listed l ≡ Ok (counts c k) → length f ≤ max_frame → LampShows (filters_of l) (field f p) 0 (start (filters_of l)) (lamp_of l f p t m)
lamp_shows l f p t m c k e short = go (eqb m 0 || ltb (slots_of t) m) refl
  where
    go : (b : Bool) → (eqb m 0 || ltb (slots_of t) m) ≡ b → LampShows (filters_of l) (field f p) 0 (start (filters_of l)) (lamp_of l f p t m)
    go true z = rw (lamp_misfit l f p t m c k e short z) (λ (x : number_of Table ≡ 0). omega (arith, number_above Table))
    go false z =
        let fs = filters_of l in
        rw (lamp_walks l f p t m c k e short z)
        (from_shows fs t m (field f p) (tests_in fs) 0 0 (start fs) (well_start fs (accepted_well l c k e)) (start_remaining fs))
