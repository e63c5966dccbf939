-- The words in which a list's states are made, and what placing its start asks.
-- Assumes nothing.
use Rattle.std.specs.Prelude.{ℕ, ◌*◌, ◌≤◌, ◌≡◌, List, length, take, replicate}
use Rattle.std.proofs.Common.{arith, sym, subst, length-take-le}
use Rattle.lists.specs.Filters.{max_filters}
use Rattle.lists.specs.laws.Accepted.{accepted_count}
use Rattle.slots.specs.Words.{filter_slot, slot_words}
use Rattle.slots.specs.Asking.{filters_in}
use Rattle.builder.specs.inner.Started.{Startable}

abbrev pub room : ℕ → List ℕ
room n = take (filter_slot * n) (replicate slot_words 0)

module _ {n slots : ℕ} {ranks l t s : List ℕ} (able : Startable n slots ranks l t s) where
  pub few_filters : n ≤ max_filters
  few_filters = (accepted_count l n able.listing.0 able.listing.1).2

  pub room_long : length (room n) ≡ filter_slot * n
  room_long = let few = few_filters in length-take-le (filter_slot * n) (replicate slot_words 0) (omega arith)

  pub room_filters : filters_in (room n) ≡ n
  room_filters = let long = room_long in omega arith

  -- The same, of as many filters as these words have room for.
  pub able_in : Startable (filters_in (room n)) slots ranks l t s
  able_in = subst (λ (m : ℕ). Startable m slots ranks l t s) (sym room_filters) able
