-- One turn of a walk through any table: it ends at a final record, stops where the allowance is used, else goes on to the next record.
use Prim.Native.Nat.{ℕ, zero, suc, ◌+◌}
use Rattle.std.specs.Prelude.{◌≡◌, Bool, true, false, ◌||◌, List, ltb, eqb, Ok}
use Rattle.fields.specs.declared.Seen.{Seen}
use Rattle.lists.specs.Filters.{kind_at}
use Rattle.tables.specs.Tables.{word_of}
use Rattle.matcher.specs.declared.Walk.TheVariants.{Done, Stopped}
use Rattle.matcher.specs.Walk.{found_at, damaged, next_of, cut_of, arrive, onward, walk_from}

module _ (t : List ℕ) (m : ℕ) (v : ℕ → Seen) (k : ℕ) (b : Bool) (n : ℕ) where
  pub walk_ends : (a : ℕ) → word_of t n kind_at ≡ 0 → walk_from t m v a k b n ≡ Ok (Done (found_at t n k b))
  unfolding walk_from damaged arrive
  walk_ends zero e = rw e
  walk_ends (suc a) e = rw e

  pub walk_stops : damaged t n ≡ false → eqb (word_of t n kind_at) 0 ≡ false → walk_from t m v 0 k b n ≡ Ok (Stopped (found_at t n k b))
  unfolding walk_from arrive
  walk_stops d e = rw (d, e)

  pub walk_goes :
      (a : ℕ) → damaged t n ≡ false → eqb (word_of t n kind_at) 0 ≡ false → ltb (next_of t v n) m ≡ true →
      walk_from t m v (suc a) k b n ≡ walk_from t m v a (k + 1) (b || cut_of t v n) (next_of t v n)
  unfolding walk_from arrive onward
  walk_goes a d e l = rw (d, e, l)
