-- What refusals 1 to 9 leave of a list.
--   well_item it       a field that exists, and a test that refusals 7 to 9 leave on it
--   well_items its     all of them
--   well_filters fs    every filter has at most 8 tests, all of them well formed
use Rattle.std.specs.Prelude.{Bool, true, ◌&&◌, List, [], ◌∷◌, leb, ltb, length}
use Rattle.residue.specs.inner.Well.{well_formed}
use Rattle.fields.specs.Widths.{field_count, full}
use Rattle.lists.specs.Filters.{max_tests, Item, Filter}

unfoldable pub well_item : Item → Bool
well_item it = ltb it.field field_count && well_formed (full it.field) it.test

unfoldable pub well_items : List Item → Bool
well_items [] = true
well_items (it ∷ its) = well_item it && well_items its

unfoldable pub well_filter : Filter → Bool
well_filter f = leb (length f.tests) max_tests && well_items f.tests

unfoldable pub well_filters : List Filter → Bool
well_filters [] = true
well_filters (f ∷ fs) = well_filter f && well_filters fs
