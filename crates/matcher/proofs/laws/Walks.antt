-- What the walk says of each refusal, and where it starts.
--   walk_long          a frame of more than 1,522 bytes is refused with 12
--   walk_none          else no state is refused with 13
--   walk_misfit        so are more states than slots
--   walk_fits          else the walk starts at record 0
use Rattle.std.specs.Prelude.{ℕ, ◌*◌, ◌≤◌, ◌<◌, ◌≡◌, Bool, true, false, cond, ◌||◌, List, ltb, eqb, length, Err}
use Rattle.std.proofs.Common.{eq-eqb, ne_eqb, lt-ltb, le-ltb}
use Rattle.fields.specs.Ethernet.{max_frame}
use Rattle.fields.specs.Seen.{seen}
use Rattle.tables.specs.Tables.{record_words, max_slots, slots_of}
use Rattle.tables.proofs.laws.Least.{slots_least}
use Rattle.refusals.specs.declared.Refusal.TheVariants.{LongFrame, Table}
use Rattle.matcher.specs.Walk.{walk, walk_from}

module _ (f : List ℕ) (p : ℕ) (t : List ℕ) (m a : ℕ) where
  pub walk_long : max_frame < length f → walk f p t m a ≡ Err LongFrame
  unfolding walk
  walk_long h = rw (lt-ltb max_frame (length f) h)

  walk_short : length f ≤ max_frame → (misfit : Bool) → (eqb m 0 || ltb (slots_of t) m) ≡ misfit → walk f p t m a ≡ cond misfit (Err Table) (walk_from t m (seen f p) a 0 false 0)
  unfolding walk
  walk_short h misfit e = rw (le-ltb max_frame (length f) h, e)

  pub walk_none : length f ≤ max_frame → m ≡ 0 → walk f p t m a ≡ Err Table
  walk_none h z = walk_short h true (rw (eq-eqb m 0 z))

  pub walk_misfit : length f ≤ max_frame → (m ≡ 0 → ⊥) → (ltb max_slots m || ltb (length t) (record_words * m)) ≡ true → walk f p t m a ≡ Err Table
  walk_misfit h nz e = walk_short h true (rw (ne_eqb m 0 nz, slots_least t m) e)

  pub walk_fits : length f ≤ max_frame → (m ≡ 0 → ⊥) → m ≤ max_slots → record_words * m ≤ length t → walk f p t m a ≡ walk_from t m (seen f p) a 0 false 0
  walk_fits h nz small room =
      walk_short h false
      (rw (ne_eqb m 0 nz, slots_least t m, le-ltb max_slots m small, le-ltb (length t) (record_words * m) room))
