-- What the words of one record say, apart from the table.
--   ends_at w l   the walk goes no further at such a record, with l questions left: it is final, damaged, or the allowance is used
--   meets c s      two sets have a field in common
--   found_in w k b  what such a record shows, with k questions asked, of which some met a cut field where b says so
--   end_at w k b    what the walk then answers
use Rattle.std.specs.Prelude.{ℕ, ◌-◌, Bool, not, ◌&&◌, ◌||◌, List, leb, ltb, eqb, get_or, Ok}
use Rattle.std.specs.Int.Bits.{bit_and}
use Rattle.fields.specs.Widths.{field_count}
use Rattle.lists.specs.Filters.{kind_at_least, kind_at, field_at}
use Rattle.tables.specs.Tables.{sure_at, out_at, set_at}
use Rattle.matcher.specs.declared.Found.{Found}
use Rattle.matcher.specs.declared.Walk.TheVariants.{Done, Stopped}
use Rattle.matcher.specs.Walk.{Answer, arrive}

abbrev pub last_field : ℕ
last_field = field_count - 1

abbrev pub word_in : List ℕ → ℕ → ℕ
word_in w j = get_or w j 0

unfoldable pub ends_at : List ℕ → ℕ → Bool
ends_at w l = eqb (word_in w kind_at) 0 || ltb kind_at_least (word_in w kind_at) || ltb last_field (word_in w field_at) || eqb l 0

unfoldable pub meets : ℕ → ℕ → Bool
meets c s = not (eqb (bit_and c s) 0)

unfoldable pub found_in : List ℕ → ℕ → Bool → Found
found_in w k b = record { sure = set_at (word_in w) sure_at; out = set_at (word_in w) out_at; asked = k; cut = b }

unfoldable pub end_at : List ℕ → ℕ → Bool → Answer
end_at w k b =
    arrive (ltb kind_at_least (word_in w kind_at) || (not (eqb (word_in w kind_at) 0) && leb field_count (word_in w field_at)))
    (eqb (word_in w kind_at) 0)
    (Ok (Done (found_in w k b)))
    (Ok (Stopped (found_in w k b)))
