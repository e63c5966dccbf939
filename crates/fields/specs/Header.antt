-- A header, which is a frame's fields read once: a bit set of the fields present (field i is bit i) and a word for each field.
--   noted ps s         the set s with the numbers of the puts in it
--   filled ps old      the words old with the puts made
--   present_set f p     the set of the fields that the frame f has
--   reading_at s vs n   field n by such a set and such words; absent above the last number
--   blank              the header with no field, and all words 0
--   HeaderOf           what reading a header leaves of it: the set of the frame's fields, and their values in its words
use Rattle.std.specs.Prelude.{ℕ, ◌^◌, ◌≡◌, cond, ◌&&◌, List, [], ◌∷◌, ltb, get_or, set, replicate, Option, None, Some}
use Rattle.std.specs.Int.Bits.{bit_or}
use Rattle.sets.specs.Sets.{member}
use Rattle.fields.specs.declared.Header.{Header}
use Rattle.fields.specs.Widths.{field_count}
use Rattle.fields.specs.Puts.{Put}
use Rattle.fields.specs.Fields.{puts}

unfoldable pub noted : List Put → ℕ → ℕ
noted [] s = s
noted ((n, x) ∷ ps) s = noted ps (bit_or s (2 ^ n))

unfoldable pub filled : List Put → List ℕ → List ℕ
filled [] old = old
filled ((n, x) ∷ ps) old = filled ps (set old n x)

unfoldable pub present_set : List ℕ → ℕ → ℕ
present_set f p = noted (puts f p) 0

unfoldable pub reading_at : ℕ → List ℕ → ℕ → Option ℕ
reading_at s vs n = cond (ltb n field_count && member n s) (Some (get_or vs n 0)) None

abbrev pub blank : Header
blank = record { present = 0; values = replicate field_count 0 }

pub record HeaderOf (f : List ℕ) (p : ℕ) (old new : Header) : Type 0 where
  pub set : new.present ≡ present_set f p
  pub words : new.values ≡ filled (puts f p) old.values
