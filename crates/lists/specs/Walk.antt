-- The filters of a list, one after the other.
--   left_in s            the words that are left, from the next filter on
--   GivesFilter s o t    the next filter is o, the words that are left, and those behind it are left then; none where no words are left
use Rattle.std.specs.Prelude.{ℕ, ◌<◌, ◌≡◌, List, [], length, drop, Option, None, Some}
use Rattle.std.specs.Borrow.{Bor}
use Rattle.lists.specs.declared.Filters.{Filters}
use Rattle.lists.specs.Filters.{filter_words}

abbrev pub left_in : Filters → List ℕ
left_in s = drop s.at s.list.now

abbrev pub GivesFilter : Filters → Option (Bor (List ℕ)) → Filters → Type 0
GivesFilter s None t = left_in s ≡ []
GivesFilter s (Some w) t = (0 < length (left_in s)) × (w.now ≡ left_in s) × (left_in t ≡ drop (filter_words (left_in s)) (left_in s))
