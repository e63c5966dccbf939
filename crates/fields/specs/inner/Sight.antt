-- Fields that are cut, beside a header that was read once.
--   cut_set f p        the set of the fields that are cut
--   seen_at s c vs n   field n by the set s of the fields present, the set c of those that are cut, and the words; none above the last number
use Rattle.std.specs.Prelude.{ℕ, ◌&&◌, List, ltb}
use Rattle.sets.specs.Sets.{set_of, member, tally}
use Rattle.fields.specs.declared.Seen.{Seen}
use Rattle.fields.specs.Widths.{field_count}
use Rattle.fields.specs.Seen.{seen_of, seen, is_cut}
use Rattle.fields.specs.Header.{reading_at}

unfoldable pub cut_set : List ℕ → ℕ → ℕ
cut_set f p = set_of (tally field_count (λ n. is_cut (seen f p n)))

unfoldable pub seen_at : ℕ → ℕ → List ℕ → ℕ → Seen
seen_at s c vs n = seen_of (ltb n field_count && member n c) (reading_at s vs n)
