-- The start is made and stored as state 0, and its ways are placed.
-- Assumes nothing.
use Rattle.std.specs.Prelude.{ℕ, ◌<◌, ◌≡◌, List, Option}
use Rattle.std.proofs.Common.{arith, rules, sym}
use Rattle.lists.specs.Filters.{Filter}
use Rattle.builder.specs.inner.Started.{Started}
use Rattle.builder.specs.laws.Starting as S
use Rattle.builder.proofs.Starting.{few_filters, room_long, room_filters, able_in}
use Rattle.builder.proofs.Following.{same_filters, same_on, ready_on, stored_on}
use Rattle.builder.proofs.start.place_start.Goals as goal

-- The words that a builder was lent come back as it left them.
landed : {m n slots : ℕ} {ranks : List ℕ} {fs : List Filter} {t s t' s' t'' s'' : List ℕ} {r : Option ℕ} → m ≡ n → t'' ≡ t' → s'' ≡ s' → Started m slots ranks fs t s r t' s'
    → Started n slots ranks fs t s r t'' s''
landed count e q came = rw (e, q, ← count) came

pub returns-then-no_slots : goal.returns-then-no_slots
returns-then-no_slots c = S.started_none c.requires c.if-no_slots.true

pub overflow_mul-words : goal.overflow_mul-words
overflow_mul-words c = omega (arith, few_filters c.requires)

pub slice_bounds-words-end : goal.slice_bounds-words-end
slice_bounds-words-end c = omega (arith, few_filters c.requires)

pub slice_bounds-builder-end : goal.slice_bounds-builder-end
slice_bounds-builder-end c = sym (room_long c.requires)

pub invariant_of-builder : goal.invariant_of-builder
invariant_of-builder c =
    let few = few_filters c.requires in
    let long = room_long c.requires in
    record { few = c.requires.few; tabled = c.requires.tabled; scratched = c.requires.scratched; filters = omega arith; whole = omega arith }

pub begin-requires : goal.begin-requires
begin-requires c = (able_in c.requires).listing

pub place_state-requires-clause-ready : goal.place_state-requires-clause-ready
place_state-requires-clause-ready c =
    let some : 0 < c.args.slots = omega arith in
    let stored = stored_on c.begin.ensures 0 c.store.new.self (c.store.ensures.stored c.fresh-fresh.ensures) in
    ready_on (same_on c.begin.ensures.same c.store.ensures.same) (omega arith) some (S.told_begin (able_in c.requires) some stored)

pub place_state-requires-clause-good : goal.place_state-requires-clause-good
place_state-requires-clause-good c =
    let some : 0 < c.args.slots = omega arith in
    let same = same_on c.begin.ensures.same c.store.ensures.same in
    let stored = stored_on c.begin.ensures 0 c.store.new.self (c.store.ensures.stored c.fresh-fresh.ensures) in
    rw (same_filters same, same.ranks) (S.good_begin (able_in c.requires) some stored)

pub returns : goal.returns
returns c =
    let some : 0 < c.args.slots = omega arith in
    let same = same_on c.begin.ensures.same c.store.ensures.same in
    let stored = stored_on c.begin.ensures 0 c.store.new.self (c.store.ensures.stored c.fresh-fresh.ensures) in
    landed (room_filters c.requires) (search rules) (search rules)
    (S.started (able_in c.requires) some stored (rw (same_filters same, same.slots, same.ranks) at c.place_state.ensures.placed))
