-- Where the lamp's walk ends: at the first state of the frame's path that has a held filter or is final.
--   LampEnded fs r k s lit j   from the state s with k questions asked the walk ends with j asked, lit or dark, at the first state of the path that ends it
--   LampShows fs r k s x       what the answer x says of the path from s on, with k asked there; a refusal has a number and says nothing of it
--   from_shows                 so answers every walk that may ask as many questions as tests remain: it is refused, or it ends there
use Prim.Native.Nat.{ℕ, zero, suc, ◌+◌, ◌≤◌, ◌<◌}
use Rattle.std.proofs.Common.{add-zero, le_of_suc-le-suc, not-suc-le-zero, arith, ◌∙◌, subst, true≢false, ltb-true, ltb-false}
use Rattle.std.specs.Prelude.{◌≡◌, refl, Bool, true, List, ltb, Option, Ok, Err}
use Rattle.std.proofs.Math.Path.{sym}
use Rattle.std.proofs.Math.Bool.{false}
use Rattle.residue.specs.laws.Choice.{by_test}
use Rattle.lists.specs.Filters.{Item, Filter}
use Rattle.states.specs.States.{State, nothing, ask, question_of}
use Rattle.states.specs.Runs.{way_of, advance, run, asks}
use Rattle.states.specs.inner.Choices.{Leads, leads_none, leads_more, Picked, OfFrame}
use Rattle.states.specs.inner.Remaining.{remaining}
use Rattle.states.proofs.laws.Keeps.{none_asked, by_question, advance_ask}
use Rattle.states.proofs.laws.Measure.{none_remaining, step_falls}
use Rattle.states.proofs.laws.Well.{well_step}
use Rattle.states.specs.inner.Well.{well_state}
use Rattle.refusals.specs.declared.Refusal.TheVariants.{Table}
use Rattle.refusals.specs.declared.Refusal.{Refusal}
use Rattle.refusals.specs.Numbers.{number_of}
use Rattle.refusals.specs.laws.Above.{number_above}
use Rattle.lamp.specs.Lamp.{Answer, is_as_is, some_held, lamp_ends, lamp_next, lamp_from}
use Rattle.lamp.specs.declared.Lamp.TheVariants.{Lit, Dark}
use Rattle.lamp.proofs.laws.Turns.{turn_refused, turn_lit, turn_dark, turn_astray, turn_goes}

pub record LampEnded (fs : List Filter) (r : ℕ → Option ℕ) (k : ℕ) (s : State) (lit : Bool) (j : ℕ) : Type 0 where
  pub more : ℕ
  pub counted : j ≡ k + more
  pub held : some_held (run fs r more s) ≡ lit
  pub final : lit ≡ false → question_of (run fs r more s) ≡ nothing
  pub path : Leads fs (OfFrame r Picked) more s (run fs r more s)
  pub before : (e : ℕ) → e < more → lamp_ends (run fs r e s) ≡ false

abbrev pub LampShows : List Filter → (ℕ → Option ℕ) → ℕ → State → Answer → Type 0
LampShows fs r k s (Ok (Lit j)) = LampEnded fs r k s true j
LampShows fs r k s (Ok (Dark j)) = LampEnded fs r k s false j
LampShows fs r k s (Err e) = number_of e.refusal ≡ 0 → ⊥

refuses : (c : Refusal) → number_of c ≡ 0 → ⊥
refuses c e = omega (arith, number_above c)

module _ (fs : List Filter) (r : ℕ → Option ℕ) (s : State) where
  ended_here : (k : ℕ) (lit : Bool) → some_held s ≡ lit → (lit ≡ false → question_of s ≡ nothing) → LampEnded fs r k s lit k
  unfolding run
  ended_here k lit held final =
      record { more = 0; counted = sym (add-zero k); held = held; final = final; path = leads_none; before = λ e l. absurd (not-suc-le-zero l) }

  module _ (q : Item) (asking : question_of s ≡ ask q) (none : some_held s ≡ false) where
    goes_on : lamp_ends s ≡ false
    unfolding lamp_ends asks
    goes_on = rw (none, asking)

    later : (lit : Bool) (k j : ℕ) → LampEnded fs r (k + 1) (advance fs r s) lit j → LampEnded fs r k s lit j
    unfolding run
    later lit k j x =
        let more = x.more in
        let counted = x.counted in
        let to = run fs r more (advance fs r s) in
        record {
          more = suc more;
          counted = omega arith;
          held = x.held;
          final = x.final;
          path = leads_more q (way_of r q) (asking, refl) (subst (λ (y : State). Leads fs (OfFrame r Picked) more y to) (advance_ask fs r q s asking) x.path);
          before = go x;
        }
      where
        go : (x : LampEnded fs r (k + 1) (advance fs r s) lit j) (e : ℕ) → e < suc x.more → lamp_ends (run fs r e s) ≡ false
        go x zero l = goes_on
        go x (suc e) l = x.before e (le_of_suc-le-suc l)

    shows_later : (k : ℕ) (x : Answer) → LampShows fs r (k + 1) (advance fs r s) x → LampShows fs r k s x
    shows_later k (Ok (Lit j)) x = later true k j x
    shows_later k (Ok (Dark j)) x = later false k j x
    shows_later k (Err e) x = x

module _ (fs : List Filter) (t : List ℕ) (m : ℕ) (r : ℕ → Option ℕ) where
  -- A turn that ends is settled here; one that asks is left to what follows.
  turn_shows :
      (a k n : ℕ) (s : State) →
      (is_as_is t n (question_of s) ≡ true → some_held s ≡ false → (q : Item) → question_of s ≡ ask q → LampShows fs r k s (lamp_from fs t m r a k n s)) →
      LampShows fs r k s (lamp_from fs t m r a k n s)
  turn_shows a k n s on =
      let P = LampShows fs r k s (lamp_from fs t m r a k n s) in
      by_test P (is_as_is t n (question_of s))
      (λ is.
      by_test P (some_held s)
      (λ held. rw (turn_lit fs t m r a k n s is held) (ended_here fs r s k true held (λ z. absurd (true≢false z))))
      (λ none. by_question P s (λ e. rw (turn_dark fs t m r a k n s is none e) (ended_here fs r s k false none (λ _. e))) (on is none)))
      (λ other. rw (turn_refused fs t m r a k n s other) (refuses Table))

  pub from_shows : (a k n : ℕ) (s : State) → well_state s ≡ true → remaining s ≤ a → LampShows fs r k s (lamp_from fs t m r a k n s)
  from_shows zero k n s h l = turn_shows zero k n s (λ is none q e. absurd (none_asked q (sym (none_remaining s (omega arith)) ∙ e)))
  from_shows (suc a) k n s h l =
      turn_shows (suc a) k n s
      (λ is none q e.
      let o = way_of r q in
      let falls = step_falls fs o q s h e in
      let step = advance_ask fs r q s e in
      let next = lamp_next t r n q in
      let well : well_state (advance fs r s) ≡ true = rw step (well_step fs o q s h) in
      let rest : remaining (advance fs r s) ≤ a = rw step (omega arith) in
      by_test (LampShows fs r k s (lamp_from fs t m r (suc a) k n s)) (ltb next m)
      (λ z. rw (turn_goes fs t m r a k n s is none q e (ltb-true next m z)) (shows_later fs r s q e none k (lamp_from fs t m r a (k + 1) next (advance fs r s)) (from_shows a (k + 1) next (advance fs r s) well rest)))
      (λ z. rw (turn_astray fs t m r a k n s is none q e (ltb-false next m z)) (refuses Table)))
