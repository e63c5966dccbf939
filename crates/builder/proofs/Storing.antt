-- A state and its record are put into lent memory behind the others, which stay.
-- Assumes nothing.
use Prim.Native.Nat.{ℕ, ◌+◌, ◌*◌, ◌-◌, ◌≤◌, ◌<◌}
use mathlib.Core.Path.{◌≡◌, refl, sym, ap, ap₂, ◌∙◌, subst}
use mathlib.Core.List.{List, [], ◌∷◌, ◌++◌}
use native.Mathlib.Omega.{arith}
use borrow.Rule.Slice.PartMut.{mid_of, put_mid}
use lib.ListN.{length, take, drop}
use Rattle.words.specs.laws.Lending.{later, put_before, put_there, put_behind}
use Rattle.tables.specs.Tables.{record_words}
use Rattle.tables.specs.inner.Records.{fresh_record, fresh_by, record_at}
use Rattle.lists.specs.Words.{test_list}
use Rattle.tables.specs.declared.Fresh.{Fresh}
use Rattle.tables.proofs.laws.Layout.{record_long}
use Rattle.slots.specs.Words.{filter_slot, slot_words}
use Rattle.slots.specs.inner.Slots.{sure_set_in, out_set_in}
use Rattle.slots.specs.Asking.{question_in}
use Rattle.slots.specs.laws.Written.{length_question}
use Rattle.machine.specs.inner.Slots.{slots_in}
use Rattle.automaton.specs.inner.Placing.{fresh_of, stored}
use Rattle.builder.specs.inner.Memory.{slot_at, states_in, records_at, memory_of}
use Rattle.builder.specs.laws.Memory.{states_more, records_more}
use Rattle.builder.specs.inner.Promises.{Stored}
use Rattle.builder.specs.inner.Builders.{filters, machine}
use Rattle.builder.specs.declared.rooms.Builder.{Builder}

-- The record that the code makes is the state's.
pub fresh_is : (b : Builder) (f : Fresh) → test_list f.asked ≡ question_in (filters b) b.words.now → f.sure ≡ sure_set_in (filters b) b.ranks.now b.words.now
    → f.out ≡ out_set_in (filters b) b.words.now → fresh_by f ≡ fresh_of (machine b) b.words.now
unfolding fresh_by fresh_of
fresh_is b f q s o = rw (q, s, o)

fresh_long : (n : ℕ) (ranks c : List ℕ) → length (fresh_of (slots_in n ranks) c) ≡ record_words
unfolding fresh_of fresh_record
fresh_long n ranks c = record_long (question_in n c) (λ _. 0) (sure_set_in n ranks c) (out_set_in n c) (length_question n c)

memory_more : (n : ℕ) (ranks : List ℕ) (used : ℕ) (t s c t' s' : List ℕ) → states_in n (used + 1) s' ≡ states_in n used s ++ (c ∷ [])
    → records_at (used + 1) t' ≡ records_at used t ++ (fresh_of (slots_in n ranks) c ∷ [])
    → memory_of n ranks (used + 1) t' s' ≡ stored (slots_in n ranks) c (memory_of n ranks used t s)
unfolding memory_of stored
memory_more n ranks used t s c t' s' e q =
    ap₂ (λ (a b : List (List ℕ)). record { met = a; records = b }) e q

slot_there : (n used : ℕ) (s c p : List ℕ) → length c ≡ filter_slot * n → slot_words * used + length c ≤ length s
    → p ≡ c ++ drop (length c) (mid_of (slot_words * used) (length s - slot_words * used) s)
    → slot_at n (put_mid (slot_words * used) (length s - slot_words * used) s p) used ≡ c
unfolding slot_at
slot_there n used s c p whole fits e =
    ap (λ (k : ℕ). take k (drop (slot_words * used) (put_mid (slot_words * used) (length s - slot_words * used) s p))) (sym whole)
    ∙ put_there (slot_words * used) (length c) s c p refl fits e

record_there : (used : ℕ) (t w q : List ℕ) → length w ≡ record_words → record_words * used + record_words ≤ length t
    → q ≡ w ++ drop record_words (mid_of (record_words * used) (length t - record_words * used) t)
    → record_at (put_mid (record_words * used) (length t - record_words * used) t q) used ≡ w
unfolding record_at
record_there used t w q long room f = put_there (record_words * used) record_words t w q long room f

-- The state made last is copied into a lent tail of the slots, its record into one of the table.
pub stored_both : (b : Builder) (used : ℕ) (p q fresh : List ℕ) → used < b.slots
    → p ≡ b.words.now ++ drop (length b.words.now) (mid_of (slot_words * used) (length b.scratch.now - slot_words * used) b.scratch.now)
    → q ≡ fresh ++ drop record_words (mid_of (record_words * used) (length b.table.now - record_words * used) b.table.now)
    → fresh ≡ fresh_of (machine b) b.words.now
    → Stored (filters b) b.slots b.ranks.now used b.table.now b.scratch.now b.words.now
    (put_mid (record_words * used) (length b.table.now - record_words * used) b.table.now q)
    (put_mid (slot_words * used) (length b.scratch.now - slot_words * used) b.scratch.now p)
stored_both b used p q fresh below e f is =
    let n = filters b in
    let ranks = b.ranks.now in
    let t = b.table.now in
    let s = b.scratch.now in
    let c = b.words.now in
    let few = b.filters in
    let tabled = b.tabled in
    let scratched = b.scratched in
    let whole = b.whole in
    let x : ℕ = slot_words * used in
    let y : ℕ = record_words * used in
    let s' : List ℕ = put_mid x (length s - x) s p in
    let t' : List ℕ = put_mid y (length t - y) t q in
    let fits : x + length c ≤ length s = omega arith in
    let room : y + record_words ≤ length t = omega arith in
    let long = fresh_long n ranks c in
    let put = f ∙ ap (λ (w : List ℕ). w ++ drop record_words (mid_of y (length t - y) t)) is in
    let next : y + record_words ≡ record_words * (used + 1) = omega arith in
    let kept : take x s' ≡ take x s = put_before x (length c) s c p refl fits e in
    let there : slot_at n s' used ≡ c = slot_there n used s c p whole fits e in
    record {
      memory =
          memory_more n ranks used t s c t' s' (states_more n used s s' c few kept there)
          (records_more used t t' (fresh_of (slots_in n ranks) c) (put_before y record_words t (fresh_of (slots_in n ranks) c) q long room put)
          (record_there used t (fresh_of (slots_in n ranks) c) q long room put));
      after = subst (λ (k : ℕ). drop k t' ≡ drop k t) next (put_behind y record_words t (fresh_of (slots_in n ranks) c) q long room put);
      kept = kept;
      beyond = later (x + length c) (slot_words * b.slots) s' s (omega arith) (put_behind x (length c) s c p refl fits e);
    }
