-- Equalities on one field in a row, each failing to the record two further on: the shape of a table for many values of one field.
--   links_at w f x n          a record with the words w asks the field f by an equality, which misses x, and fails to record n
--   Chained t m f x l s q n  where field f reads x, the walk from record s with l questions left goes on from record n with q left
use Rattle.std.specs.Prelude.{ℕ, ◌-◌, ◌≤◌, ◌<◌, ◌≡◌, Bool, not, ◌&&◌, List, eqb, Some}
use Rattle.std.specs.Int.Bits.{bit_and}
use Rattle.fields.specs.Seen.{reading_of}
use Rattle.fields.specs.declared.Seen.{Seen}
use Rattle.lists.specs.Filters.{kind_equal, kind_at, field_at, mask_at, value_at}
use Rattle.tables.specs.Tables.{fails_at}
use Rattle.matcher.specs.Walk.{walk_from}
use Rattle.matcher.specs.inner.Records.{word_in}

unfoldable pub links_at : List ℕ → ℕ → ℕ → ℕ → Bool
links_at w f x n =
    eqb (word_in w kind_at) kind_equal &&
    eqb (word_in w field_at) f &&
    not (eqb (bit_and x (word_in w mask_at)) (word_in w value_at)) &&
    eqb (word_in w fails_at) n

-- The questions asked are what is gone of the allowance a; none of them meets a cut field.
pub record Chained (t : List ℕ) (m f x l s q n : ℕ) : Type 0 where
  pub within : q ≤ l
  pub inside : n < m
  pub same :
      (v : ℕ → Seen) →
      reading_of (v f) ≡ Some x →
      (a : ℕ) →
      l ≤ a →
      (b : Bool) →
      walk_from t m v l (a - l) b s ≡ walk_from t m v q (a - q) b n
