-- The number of slots by what a walk can test without a division.
--   slots_least   more states than slots: above the most slots, or more words than the table has
use Rattle.std.specs.Prelude.{ℕ, ◌*◌, ◌/◌, min, ◌≡◌, refl, Bool, true, false, ◌||◌, List, ltb, length}
use Rattle.std.proofs.Math.Nat.{min-le_left, min-le_right, le-min}
use Rattle.std.proofs.Common.{arith, ltb-true, ltb-false, lt-ltb, le-ltb}
use Rattle.tables.specs.Tables.{record_words, max_slots, slots_of}

-- Both tests on the right, and what each way says of the numbers.
least_by :
    (x m : ℕ) (most room : Bool) →
    ltb max_slots m ≡ most →
    ltb x (record_words * m) ≡ room →
    ltb (min (x / record_words) max_slots) m ≡ (most || room)
least_by x m true room p q =
    lt-ltb _ m (omega (arith, min-le_right (x / record_words) max_slots, ltb-true max_slots m p))
least_by x m false true p q =
    lt-ltb _ m (omega (arith, min-le_left (x / record_words) max_slots, ltb-true x (record_words * m) q))
least_by x m false false p q =
    le-ltb (min (x / record_words) max_slots) m
    (le-min (omega (arith, ltb-false x (record_words * m) q)) (ltb-false max_slots m p))

pub slots_least : (t : List ℕ) (m : ℕ) → ltb (slots_of t) m ≡ (ltb max_slots m || ltb (length t) (record_words * m))
unfolding slots_of
slots_least t m = least_by (length t) m (ltb max_slots m) (ltb (length t) (record_words * m)) refl refl
