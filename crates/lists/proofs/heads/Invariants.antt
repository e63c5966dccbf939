-- What is written and what is still to be read make the list's ranks.
use Rattle.std.proofs.Common.{◌+◌, ◌≡◌}
use Rattle.std.specs.Iterator.Adapters.{take_source, take_count}
use Rattle.lists.specs.Filters.{max_filters}
use Rattle.lists.specs.Walk.{left_in}
use Rattle.lists.proofs.Columns.{Partway}
use Rattle.lists.proofs.heads.Given as goal

abbrev pub invariant-loop-words : goal.invariant-loop-words
invariant-loop-words l = (l.n + take_count l.words-iterator ≡ max_filters) × Partway l.list (left_in (take_source l.words-iterator)) l.n l.ranks
