-- One turn of the lamp's walk from record n and the state s on, by what they are; and what the whole answers before it walks.
--   turn_refused, turn_lit, turn_dark, turn_spent   it ends there
--   turn_astray, turn_goes              it asks on: to no record, to the next
--   lamp_refused, lamp_long, lamp_misfit, lamp_walks   the list's refusals, 12, 13 for a bad number of states, else the walk
use Prim.Native.Nat.{ℕ, zero, suc, ◌+◌, ◌≤◌, ◌<◌}
use Rattle.std.specs.Prelude.{◌≡◌, Bool, ◌||◌, List, eqb, ltb, length, Option, Ok, Err}
use Rattle.std.proofs.Math.Path.{ap, ap₂}
use Rattle.std.proofs.Math.Bool.{true, false}
use borrow.Author.Tests.{lt-ltb, le-ltb}
use Rattle.refusals.specs.declared.Refusal.TheVariants.{LongFrame, Table}
use Rattle.refusals.specs.declared.Refused.{Refused}
use Rattle.refusals.specs.Numbers.{unplaced}
use Rattle.fields.specs.Ethernet.{max_frame}
use Rattle.fields.specs.Fields.{field}
use Rattle.lists.specs.Filters.{Item, Filter, filters_of, tests_in}
use Rattle.lists.specs.Refusals.{listed, counts}
use Rattle.states.specs.Runs.{advance}
use Rattle.states.specs.States.{State, start, nothing, ask, question_of}
use Rattle.tables.specs.Tables.{slots_of}
use Rattle.lamp.specs.Lamp.{Answer, is_as_is, some_held, lamp_next, lamp_at, lamp_on, lamp_from, lamp_by, lamp_of}
use Rattle.lamp.specs.declared.Lamp.TheVariants.{Lit, Dark}

module _ (fs : List Filter) (t : List ℕ) (m : ℕ) (r : ℕ → Option ℕ) (a k n : ℕ) (s : State) where
  -- What follows where the record is right and no filter is held, with so many questions left behind this one.
  abbrev further : ℕ → Answer
  further b = lamp_on t m r k n (λ (next : ℕ). lamp_from fs t m r b (k + 1) next (advance fs r s)) (question_of s)

  pub turn_refused : is_as_is t n (question_of s) ≡ false → lamp_from fs t m r a k n s ≡ Err (unplaced Table)
  unfolding lamp_from lamp_at
  turn_refused = go a
    where
      go : (a : ℕ) → is_as_is t n (question_of s) ≡ false → lamp_from fs t m r a k n s ≡ Err (unplaced Table)
      go zero e = ap (λ (x : Bool). lamp_at x (some_held s) k (Ok (Dark k))) e
      go (suc a) e = ap (λ (x : Bool). lamp_at x (some_held s) k (further a)) e

  module _ (as_is : is_as_is t n (question_of s) ≡ true) where
    pub turn_lit : some_held s ≡ true → lamp_from fs t m r a k n s ≡ Ok (Lit k)
    unfolding lamp_from lamp_at
    turn_lit = go a
      where
        go : (a : ℕ) → some_held s ≡ true → lamp_from fs t m r a k n s ≡ Ok (Lit k)
        go zero h = ap₂ (λ (x y : Bool). lamp_at x y k (Ok (Dark k))) as_is h
        go (suc a) h = ap₂ (λ (x y : Bool). lamp_at x y k (further a)) as_is h

    module _ (held : some_held s ≡ false) where
      pub turn_dark : question_of s ≡ nothing → lamp_from fs t m r a k n s ≡ Ok (Dark k)
      unfolding lamp_from lamp_at lamp_on
      turn_dark = go a
        where
          go : (a : ℕ) → question_of s ≡ nothing → lamp_from fs t m r a k n s ≡ Ok (Dark k)
          go zero e = ap₂ (λ (x y : Bool). lamp_at x y k (Ok (Dark k))) as_is held
          go (suc a) e = rw (as_is, held, e)

      -- No question left counts as none to ask.
      pub turn_spent : lamp_from fs t m r 0 k n s ≡ Ok (Dark k)
      unfolding lamp_from lamp_at
      turn_spent = rw (as_is, held)

      pub turn_astray : (q : Item) → question_of s ≡ ask q → m ≤ lamp_next t r n q → lamp_from fs t m r (suc a) k n s ≡ Err (unplaced Table)
      unfolding lamp_from lamp_at lamp_on
      turn_astray q e l = rw (as_is, held, e, le-ltb _ _ l)

      pub turn_goes :
          (q : Item) → question_of s ≡ ask q → lamp_next t r n q < m → lamp_from fs t m r (suc a) k n s ≡ lamp_from fs t m r a (k + 1) (lamp_next t r n q) (advance fs r s)
      unfolding lamp_from lamp_at lamp_on
      turn_goes q e l = rw (as_is, held, e, lt-ltb _ _ l)

module _ (l f : List ℕ) (p : ℕ) (t : List ℕ) (m : ℕ) where
  pub lamp_refused : (r : Refused ℕ) → listed l ≡ Err r → lamp_of l f p t m ≡ Err r
  unfolding lamp_of lamp_by
  lamp_refused r e = rw e

  module _ (c k : ℕ) (e : listed l ≡ Ok (counts c k)) where
    pub lamp_long : max_frame < length f → lamp_of l f p t m ≡ Err (unplaced LongFrame)
    unfolding lamp_of lamp_by
    lamp_long h = rw (e, lt-ltb max_frame (length f) h)

    module _ (short : length f ≤ max_frame) where
      pub lamp_misfit : (eqb m 0 || ltb (slots_of t) m) ≡ true → lamp_of l f p t m ≡ Err (unplaced Table)
      unfolding lamp_of lamp_by
      lamp_misfit h = rw (e, le-ltb max_frame (length f) short, h)

      pub lamp_walks : (eqb m 0 || ltb (slots_of t) m) ≡ false → lamp_of l f p t m ≡ lamp_from (filters_of l) t m (field f p) (tests_in (filters_of l)) 0 0 (start (filters_of l))
      unfolding lamp_of lamp_by
      lamp_walks h = rw (e, le-ltb max_frame (length f) short, h)
