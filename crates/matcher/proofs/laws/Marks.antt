-- The mark of a walk (document 02, P7), over any table.
--   Kept w       the answer w is refused, or has the mark
--   kept_on      a walk that has the mark keeps it
--   mark_lasts   a greater allowance that is not refused may set it and never clears it
use Prim.Native.Nat.{ℕ, zero, suc, ◌+◌, ◌≤◌}
use Rattle.std.proofs.Common.{not-suc-le-zero, le_of_suc-le-suc, sym, ◌∙◌}
use Rattle.std.specs.Prelude.{◌≡◌, refl, Bool, cond, ◌||◌, List, eqb, length, Ok, Err}
use Rattle.refusals.specs.declared.Refusal.{Refusal}
use Rattle.refusals.specs.declared.Refusal.TheVariants.{LongFrame, Table}
use Rattle.std.proofs.Math.Bool.{true, false}
use Rattle.std.proofs.lemmas.Bool.{false≢true}
use Rattle.std.proofs.Math.Dec.{ltb}
use Rattle.fields.specs.Ethernet.{max_frame}
use Rattle.fields.specs.Seen.{seen}
use Rattle.fields.specs.declared.Seen.{Seen}
use Rattle.lists.specs.Filters.{kind_at}
use Rattle.tables.specs.Tables.{slots_of, word_of}
use Rattle.matcher.specs.declared.Found.{Found}
use Rattle.matcher.specs.declared.Walk.TheVariants.{Done, Stopped}
use Rattle.matcher.specs.Walk.{Answer, found_at, found, damaged, next_of, cut_of, arrive, onward, walk_from, walk}

data Kept : Answer → Type 0 where
  kept_done : (x : Found) → x.cut ≡ true → Kept (Ok (Done x))
  kept_stopped : (x : Found) → x.cut ≡ true → Kept (Ok (Stopped x))
  kept_refused : (r : Refusal) → Kept (Err r)

kept_arrive : (d z : Bool) (end on : Answer) → Kept end → Kept on → Kept (arrive d z end on)
unfolding arrive
kept_arrive true z end on e o = kept_refused Table
kept_arrive false true end on e o = e
kept_arrive false false end on e o = o

kept_onward : (b : Bool) (on : Answer) → Kept on → Kept (onward b on)
unfolding onward
kept_onward true on o = o
kept_onward false on o = kept_refused Table

-- Two walks that part only behind a record.
later_arrive :
    (d z : Bool) (end on on' : Answer) → ((found end).cut ≡ true → Kept end) → ((found on).cut ≡ true → Kept on') →
    (found (arrive d z end on)).cut ≡ true → Kept (arrive d z end on')
unfolding arrive
later_arrive true z end on on' e o h = kept_refused Table
later_arrive false true end on on' e o h = e h
later_arrive false false end on on' e o h = o h

later_onward : (b : Bool) (on on' : Answer) → ((found on).cut ≡ true → Kept on') → (found (onward b on)).cut ≡ true → Kept (onward b on')
unfolding onward
later_onward true on on' o h = o h
later_onward false on on' o h = kept_refused Table

none_marked : (d z : Bool) (x : Found) → x.cut ≡ false → (found (arrive d z (Ok (Done x)) (Ok (Stopped x)))).cut ≡ false
unfolding arrive
none_marked true z x e = refl
none_marked false true x e = e
none_marked false false x e = e

module _ (t : List ℕ) (m : ℕ) (v : ℕ → Seen) where
  kept_on : (a k n : ℕ) → Kept (walk_from t m v a k true n)
  unfolding walk_from found_at
  kept_on zero k n =
      let x = found_at t n k true in
      kept_arrive (damaged t n) (eqb (word_of t n kind_at) 0) (Ok (Done x)) (Ok (Stopped x)) (kept_done x refl) (kept_stopped x refl)
  kept_on (suc a) k n =
      let x = found_at t n k true in
      let rest = walk_from t m v a (k + 1) true (next_of t v n) in
      kept_arrive (damaged t n) (eqb (word_of t n kind_at) 0) (Ok (Done x)) (onward (ltb (next_of t v n) m) rest) (kept_done x refl)
      (kept_onward (ltb (next_of t v n) m) rest (kept_on a (k + 1) (next_of t v n)))

  mark_later : (a a' k : ℕ) (b : Bool) (n : ℕ) → a ≤ a' → (found (walk_from t m v a k b n)).cut ≡ true → Kept (walk_from t m v a' k b n)
  unfolding walk_from found_at
  mark_later zero a' k true n l h = kept_on a' k n
  mark_later zero a' k false n l h =
      absurd (false≢true (sym (none_marked (damaged t n) (eqb (word_of t n kind_at) 0) (found_at t n k false) refl) ∙ h))
  mark_later (suc a) zero k b n l h = absurd (not-suc-le-zero l)
  mark_later (suc a) (suc a') k b n l h =
      let inside = ltb (next_of t v n) m in
      let mark = b || cut_of t v n in
      let rest = walk_from t m v a (k + 1) mark (next_of t v n) in
      let rest' = walk_from t m v a' (k + 1) mark (next_of t v n) in
      later_arrive (damaged t n) (eqb (word_of t n kind_at) 0) (Ok (Done (found_at t n k b))) (onward inside rest) (onward inside rest')
      (kept_done (found_at t n k b))
      (later_onward inside rest rest' (mark_later a a' (k + 1) mark (next_of t v n) (le_of_suc-le-suc l)))
      h

kept_mark : {w : Answer} → Kept w → ((r : Refusal) → w ≡ Err r → ⊥) → (found w).cut ≡ true
kept_mark (kept_done x h) some = h
kept_mark (kept_stopped x h) some = h
kept_mark (kept_refused r) some = absurd (some r refl)

pub mark_lasts :
    (f : List ℕ) (p : ℕ) (t : List ℕ) (m a a' : ℕ) → a ≤ a' → ((r : Refusal) → walk f p t m a' ≡ Err r → ⊥) →
    (found (walk f p t m a)).cut ≡ true → (found (walk f p t m a')).cut ≡ true
unfolding walk
mark_lasts f p t m a a' more some h = kept_mark (go (ltb max_frame (length f)) (eqb m 0 || ltb (slots_of t) m) h) some
  where
    go : (b c : Bool) →
        (found (cond b (Err LongFrame) (cond c (Err Table) (walk_from t m (seen f p) a 0 false 0)))).cut ≡ true →
        Kept (cond b (Err LongFrame) (cond c (Err Table) (walk_from t m (seen f p) a' 0 false 0)))
    go true c e = kept_refused LongFrame
    go false true e = kept_refused Table
    go false false e = mark_later t m (seen f p) a a' 0 false 0 more e
