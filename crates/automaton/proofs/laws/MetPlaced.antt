-- The builder places exactly the states met, each with its record, or finds no slot where they are more than the slots.
--   Fit M s             what placing asks of a state: it is the same as itself, and its question has the words of one
use Rattle.std.specs.Prelude.{ℕ, zero, suc, ◌≤◌, ◌<◌, ◌≡◌, refl, Bool, true, false, cond, List, [], ◌∷◌, ◌++◌, map, leb, length, set, None, Some}
use Rattle.std.proofs.Common.{arith, sym, ap, ◌∙◌, subst, append_assoc, append-nil, length-append, leb-true, leb-false, le-leb}
use Rattle.std.proofs.lemmas.Bool.{false≢true, lt-leb}
use Rattle.std.proofs.lemmas.List.{map-append, length-map, get_or_at, set_at}
use Rattle.residue.specs.declared.Outcome.{Outcome}
use Rattle.residue.specs.declared.Outcome.TheVariants.{Holds, Fails, Absent}
use Rattle.tables.specs.Tables.{next_at, record_with}
use Rattle.tables.specs.inner.Records.{ask_words, fresh_record}
use Rattle.tables.proofs.laws.Layout.{fresh_linked}
use Rattle.automaton.specs.Machines.{Machine, meets, place_of, nexts_of, record_of}
use Rattle.automaton.proofs.laws.Lists.{each_head, each_tail, each_left, each_right, Each, Begins, begins_refl, begins_append, begins_trans, begins_length}
use Rattle.automaton.specs.inner.Placing.{holding, Memory, Placement, fresh_of, stored, linked, and_then, place_way, place_state, place_all}
use Rattle.automaton.proofs.laws.Visited.{Visits, old, final, asking, three_ways}
use Rattle.automaton.proofs.laws.Places.{meets_nil, place_begins, place_begins_new}

pub record Fit (M : Machine) (s : M.State) : Type 0 where
  pub itself : M.same s s ≡ true
  pub long : length (M.question s) ≡ ask_words

-- A way whose states all find a slot: they are stored behind those met, with their records by the numbers of any longer list.
abbrev WaySlotted : (M : Machine) (slots f : ℕ) (whole met : List M.State) (t : M.State) (news : List M.State) → Type 0
WaySlotted M slots f whole met t news =
    (o : Outcome) (at : ℕ) (s : M.State) (before after : List (List ℕ)) (r : List ℕ) → M.step o s ≡ t → length before ≡ at → length (before ++ r ∷ after) ≡ length met
    → place_way M slots (place_state M slots f) o at s (holding met (before ++ r ∷ after))
    ≡ Some (holding (met ++ news) (before ++ set r (next_at o) (place_of M whole t) ∷ (after ++ map (record_of M whole) news)))

-- A way with a state that finds no slot.
abbrev WaySlotless : (M : Machine) (slots f : ℕ) (met : List M.State) (t : M.State) → Type 0
WaySlotless M slots f met t =
    (o : Outcome) (at : ℕ) (s : M.State) (before after : List (List ℕ)) (r : List ℕ) → M.step o s ≡ t → length before ≡ at → length (before ++ r ∷ after) ≡ length met
    → place_way M slots (place_state M slots f) o at s (holding met (before ++ r ∷ after)) ≡ None

-- A record that gets its next numbers.

linked_at : (M : Machine) (o : Outcome) (at next : ℕ) (met : List M.State) (before after : List (List ℕ)) (r : List ℕ) → length before ≡ at
    → linked M o at next (holding met (before ++ r ∷ after)) ≡ holding met (before ++ set r (next_at o) next ∷ after)
unfolding linked
linked_at M o at next met before after r h = rw (get_or_at before r after [] at h, set_at before r after (set r (next_at o) next) at h)

nexts_final : (M : Machine) (whole : List M.State) (s : M.State) (o : Outcome) → M.asks s ≡ false → nexts_of M whole s o ≡ 0
unfolding nexts_of
nexts_final M whole s o q = rw q

nexts_asking : (M : Machine) (whole : List M.State) (s : M.State) (o : Outcome) → M.asks s ≡ true → nexts_of M whole s o ≡ place_of M whole (M.step o s)
unfolding nexts_of
nexts_asking M whole s o q = rw q

record_final : (M : Machine) (whole : List M.State) (s : M.State) → M.asks s ≡ false → fresh_of M s ≡ record_of M whole s
unfolding fresh_of fresh_record record_of record_with
record_final M whole s q = rw (nexts_final M whole s Holds q, nexts_final M whole s Fails q, nexts_final M whole s Absent q)

record_asking : (M : Machine) (whole : List M.State) (s : M.State) → M.asks s ≡ true → Fit M s
    → set (set (set (fresh_of M s) (next_at Holds) (place_of M whole (M.step Holds s))) (next_at Fails) (place_of M whole (M.step Fails s)))
    (next_at Absent) (place_of M whole (M.step Absent s)) ≡ record_of M whole s
unfolding fresh_of record_of
record_asking M whole s q fit =
    rw (← nexts_asking M whole s Holds q, ← nexts_asking M whole s Fails q, ← nexts_asking M whole s Absent q)
    (fresh_linked (M.question s) (nexts_of M whole s) (M.sure s) (M.out s) fit.long)

-- One way, case by case.

pub way_old : (M : Machine) (slots : ℕ) (build : ℕ → M.State → Memory M → Placement M) (o : Outcome) (at : ℕ) (s t : M.State) (m : Memory M)
    → M.step o s ≡ t → meets M m.met t ≡ true → place_way M slots build o at s m ≡ Some (linked M o at (place_of M m.met t) m)
unfolding place_way
way_old M slots build o at s t m leads e = rw (← leads, rw (← leads) at e, place_way)

pub way_unslotted : (M : Machine) (slots : ℕ) (build : ℕ → M.State → Memory M → Placement M) (o : Outcome) (at : ℕ) (s t : M.State) (m : Memory M)
    → M.step o s ≡ t → meets M m.met t ≡ false → slots ≤ length m.met → place_way M slots build o at s m ≡ None
unfolding place_way
way_unslotted M slots build o at s t m leads e h = rw (rw (← leads) at e, place_way, le-leb slots (length m.met) h)

pub way_new : (M : Machine) (slots : ℕ) (build : ℕ → M.State → Memory M → Placement M) (o : Outcome) (at : ℕ) (s t : M.State) (m : Memory M)
    → M.step o s ≡ t → meets M m.met t ≡ false → length m.met < slots
    → place_way M slots build o at s m
    ≡ and_then M (build (length m.met) t (stored M t m)) (λ m'. Some (linked M o at (length m.met) m'))
unfolding place_way
way_new M slots build o at s t m leads e h = rw (← leads, rw (← leads) at e, place_way, lt-leb slots (length m.met) h)

-- The ways of a state, case by case.

pub state_final : (M : Machine) (slots f at : ℕ) (s : M.State) (m : Memory M) → M.asks s ≡ false → place_state M slots f at s m ≡ Some m
unfolding place_state
state_final M slots zero at s m q = refl
state_final M slots (suc f) at s m q = rw (q, place_state)

state_asking : (M : Machine) (slots f at : ℕ) (s : M.State) (m : Memory M) → M.asks s ≡ true
    → place_state M slots (suc f) at s m
    ≡ and_then M (place_way M slots (place_state M slots f) Holds at s m)
    (λ m₁. and_then M (place_way M slots (place_state M slots f) Fails at s m₁)
    (λ m₂. place_way M slots (place_state M slots f) Absent at s m₂))
unfolding place_state
state_asking M slots f at s m q = rw (q, place_state)

pub state_slotless : (M : Machine) (slots f at : ℕ) (s : M.State) (m : Memory M) → M.asks s ≡ true
    → place_way M slots (place_state M slots f) Holds at s m ≡ None
    → place_state M slots (suc f) at s m ≡ None
unfolding and_then
state_slotless M slots f at s m q v = rw (state_asking M slots f at s m q, v)

pub state_slotted_slotless : (M : Machine) (slots f at : ℕ) (s : M.State) (m m₁ : Memory M) → M.asks s ≡ true
    → place_way M slots (place_state M slots f) Holds at s m ≡ Some m₁
    → place_way M slots (place_state M slots f) Fails at s m₁ ≡ None
    → place_state M slots (suc f) at s m ≡ None
unfolding and_then
state_slotted_slotless M slots f at s m m₁ q v w = rw (state_asking M slots f at s m q, v, w)

pub state_slotted : (M : Machine) (slots f at : ℕ) (s : M.State) (m m₁ m₂ : Memory M) (p : Placement M) → M.asks s ≡ true
    → place_way M slots (place_state M slots f) Holds at s m ≡ Some m₁
    → place_way M slots (place_state M slots f) Fails at s m₁ ≡ Some m₂
    → place_way M slots (place_state M slots f) Absent at s m₂ ≡ p
    → place_state M slots (suc f) at s m ≡ p
unfolding and_then
state_slotted M slots f at s m m₁ m₂ p q v w z = rw (state_asking M slots f at s m q, v, w) z

-- A new state that found a slot, with its record and those behind it.
new_slotted : (M : Machine) (slots : ℕ) (build : ℕ → M.State → Memory M → Placement M) (o : Outcome) (at : ℕ) (s t : M.State)
    (met out : List M.State) (before after behind : List (List ℕ)) (r : List ℕ)
    → M.step o s ≡ t → meets M met t ≡ false → length met < slots → length before ≡ at
    → build (length met) t (stored M t (holding met (before ++ r ∷ after))) ≡ Some (holding out (before ++ r ∷ after ++ behind))
    → place_way M slots build o at s (holding met (before ++ r ∷ after))
    ≡ Some (holding out (before ++ set r (next_at o) (length met) ∷ (after ++ behind)))
unfolding and_then
new_slotted M slots build o at s t met out before after behind r leads e h hb built =
    rw (way_new M slots build o at s t (holding met (before ++ r ∷ after)) leads e h, built, append_assoc before (r ∷ after) behind)
    (ap Some (linked_at M o at (length met) out before (after ++ behind) r hb))

longer_begins : {A : Type 0} (met a b c : List A) (s : A) {whole : List A} → Begins (met ++ s ∷ (a ++ b ++ c)) whole
    → Begins (met ++ s ∷ [] ++ a) whole × Begins (met ++ s ∷ [] ++ a ++ b) whole × Begins (met ++ s ∷ [] ++ a ++ b ++ c) whole
longer_begins {A} met a b c s {whole} p =
    let p3 = subst (λ (l : List A). Begins l whole) (sym (three_ways met s a b c)) p in
    let p2 = begins_trans (begins_append (met ++ s ∷ [] ++ a ++ b) c) p3 in
    (begins_trans (begins_append (met ++ s ∷ [] ++ a) b) p2, p2, p3)

new_bound : {A : Type 0} (met more : List A) (s : A) (n : ℕ) → length (met ++ s ∷ more) ≤ n → length met < n
new_bound met more s n h = omega (arith, length-append met (s ∷ more))

-- The three ways of a new state that asks, one after the other.
three_slotted : (M : Machine) (slots f : ℕ) (whole met a b c : List M.State) (s : M.State) (records : List (List ℕ))
    → M.asks s ≡ true → Fit M s → length records ≡ length met
    → WaySlotted M slots f whole (met ++ s ∷ []) (M.step Holds s) a
    → WaySlotted M slots f whole (met ++ s ∷ [] ++ a) (M.step Fails s) b
    → WaySlotted M slots f whole (met ++ s ∷ [] ++ a ++ b) (M.step Absent s) c
    → place_state M slots (suc f) (length met) s (holding (met ++ s ∷ []) (records ++ fresh_of M s ∷ []))
    ≡ Some (holding (met ++ s ∷ (a ++ b ++ c)) (records ++ map (record_of M whole) (s ∷ (a ++ b ++ c))))
three_slotted M slots f whole met a b c s records q fit h v w z =
    rw (← three_ways met s a b c, map-append (record_of M whole) (a ++ b) c, map-append (record_of M whole) a b, ← record_asking M whole s q fit)
    (state_slotted M slots f (length met) s _ _ _ _ q
    (v Holds (length met) s records [] (fresh_of M s) refl h (simp length-append (omega arith)))
    (w Fails (length met) s records (map (record_of M whole) a) _ refl h (simp (length-append, length-map) (omega arith)))
    (z Absent (length met) s records (map (record_of M whole) a ++ map (record_of M whole) b) _ refl h (simp (length-append, length-map) (omega arith))))

-- Where the states met fit the slots.

abbrev SlottedIf : (M : Machine) (slots f : ℕ) (whole met : List M.State) (t : M.State) (news : List M.State) → Type 0
SlottedIf M slots f whole met t news = Each (Fit M) news → Begins (met ++ news) whole → length (met ++ news) ≤ slots → WaySlotted M slots f whole met t news

built_slotted : (M : Machine) (slots f : ℕ) (whole met a b c : List M.State) (s : M.State) (records : List (List ℕ))
    → M.asks s ≡ true → length records ≡ length met
    → Each (Fit M) (s ∷ (a ++ b ++ c)) → Begins (met ++ s ∷ (a ++ b ++ c)) whole → length (met ++ s ∷ (a ++ b ++ c)) ≤ slots
    → SlottedIf M slots f whole (met ++ s ∷ []) (M.step Holds s) a
    → SlottedIf M slots f whole (met ++ s ∷ [] ++ a) (M.step Fails s) b
    → SlottedIf M slots f whole (met ++ s ∷ [] ++ a ++ b) (M.step Absent s) c
    → place_state M slots (suc f) (length met) s (holding (met ++ s ∷ []) (records ++ fresh_of M s ∷ []))
    ≡ Some (holding (met ++ s ∷ (a ++ b ++ c)) (records ++ map (record_of M whole) (s ∷ (a ++ b ++ c))))
built_slotted M slots f whole met a b c s records q h fits begins bound v w z =
    let longer = longer_begins met a b c s (begins_refl (met ++ s ∷ (a ++ b ++ c))) in
    let inside = longer_begins met a b c s begins in
    let rest = each_tail fits in
    three_slotted M slots f whole met a b c s records q (each_head fits) h
    (v (each_left a b (each_left (a ++ b) c rest)) inside.0 (omega (arith, begins_length longer.0)))
    (w (each_right a b (each_left (a ++ b) c rest)) inside.1 (omega (arith, begins_length longer.1)))
    (z (each_right (a ++ b) c rest) inside.2 (omega (arith, begins_length longer.2)))

way_slotted : (M : Machine) (slots : ℕ) (whole : List M.State) {f : ℕ} {met news : List M.State} {t : M.State}
    → Visits M f met t news → SlottedIf M slots f whole met t news
unfolding stored
way_slotted M slots whole {f} {met} {t} (old e) fits begins bound o at s before after r leads hb hl =
    rw (append-nil met, append-nil after, place_begins M t (begins_trans (begins_append met []) begins) e)
    (way_old M slots (place_state M slots f) o at s t (holding met (before ++ r ∷ after)) leads e
    ∙ ap Some (linked_at M o at (place_of M met t) met before after r hb))
way_slotted M slots whole {f} {met} {t} (final e q) fits begins bound o at s before after r leads hb hl =
    rw (place_begins_new M met [] t begins e (each_head fits).itself, ← record_final M whole t q)
    (new_slotted M slots (place_state M slots f) o at s t met (met ++ t ∷ []) before after (fresh_of M t ∷ []) r leads e (new_bound met [] t slots bound) hb
    (state_final M slots f (length met) t _ q))
way_slotted M slots whole {met} {t} (asking {f = f} {a = a} {b = b} {c = c} e q v w z) fits begins bound o at s before after r leads hb hl =
    rw (place_begins_new M met (a ++ b ++ c) t begins e (each_head fits).itself)
    (new_slotted M slots (place_state M slots (suc f)) o at s t met (met ++ t ∷ (a ++ b ++ c)) before after (map (record_of M whole) (t ∷ (a ++ b ++ c))) r leads e
    (new_bound met (a ++ b ++ c) t slots bound) hb
    (built_slotted M slots f whole met a b c t (before ++ r ∷ after) q hl fits begins bound
    (λ fits begins bound o at s before after r leads hb hl. way_slotted M slots whole v fits begins bound o at s before after r leads hb hl)
    (λ fits begins bound o at s before after r leads hb hl. way_slotted M slots whole w fits begins bound o at s before after r leads hb hl)
    (λ fits begins bound o at s before after r leads hb hl. way_slotted M slots whole z fits begins bound o at s before after r leads hb hl)))

-- Where they are more than the slots.

abbrev SlotlessIf : (M : Machine) (slots f : ℕ) (met : List M.State) (t : M.State) (news : List M.State) → Type 0
SlotlessIf M slots f met t news = Each (Fit M) news → length met ≤ slots → slots < length (met ++ news) → WaySlotless M slots f met t

built_slotless : (M : Machine) (slots f : ℕ) (met a b c : List M.State) (s : M.State) (records : List (List ℕ))
    → M.asks s ≡ true → length records ≡ length met
    → Each (Fit M) (s ∷ (a ++ b ++ c)) → length met < slots → slots < length (met ++ s ∷ (a ++ b ++ c))
    → Visits M f (met ++ s ∷ []) (M.step Holds s) a → Visits M f (met ++ s ∷ [] ++ a) (M.step Fails s) b
    → SlotlessIf M slots f (met ++ s ∷ []) (M.step Holds s) a
    → SlotlessIf M slots f (met ++ s ∷ [] ++ a) (M.step Fails s) b
    → SlotlessIf M slots f (met ++ s ∷ [] ++ a ++ b) (M.step Absent s) c
    → place_state M slots (suc f) (length met) s (holding (met ++ s ∷ []) (records ++ fresh_of M s ∷ [])) ≡ None
built_slotless M slots f met a b c s records q h fits one over v w slotless-a slotless-b slotless-c =
    go (leb (length (met ++ s ∷ [] ++ a)) slots) (leb (length (met ++ s ∷ [] ++ a ++ b)) slots) refl refl
  where
    fits_a : Each (Fit M) a
    fits_a = each_left a b (each_left (a ++ b) c (each_tail fits))

    fits_b : Each (Fit M) b
    fits_b = each_right a b (each_left (a ++ b) c (each_tail fits))

    long : length (records ++ fresh_of M s ∷ []) ≡ length (met ++ s ∷ [])
    long = simp length-append (omega arith)

    long_a : (whole : List M.State) (r : List ℕ) → length (records ++ r ∷ map (record_of M whole) a) ≡ length (met ++ s ∷ [] ++ a)
    long_a whole r = simp (length-append, length-map) (omega arith)

    long_b : (whole : List M.State) (r : List ℕ)
        → length (records ++ r ∷ (map (record_of M whole) a ++ map (record_of M whole) b)) ≡ length (met ++ s ∷ [] ++ a ++ b)
    long_b whole r = simp (length-append, length-map) (omega arith)

    go : (x y : Bool) → leb (length (met ++ s ∷ [] ++ a)) slots ≡ x → leb (length (met ++ s ∷ [] ++ a ++ b)) slots ≡ y
        → place_state M slots (suc f) (length met) s (holding (met ++ s ∷ []) (records ++ fresh_of M s ∷ [])) ≡ None
    go false y p p' =
        state_slotless M slots f (length met) s _ q
        (slotless-a fits_a (simp length-append (omega arith)) (leb-false _ slots p) Holds (length met) s records [] (fresh_of M s) refl h long)
    go true false p p' =
        let whole = met ++ s ∷ [] ++ a in
        state_slotted_slotless M slots f (length met) s _ _ q
        (way_slotted M slots whole v fits_a (begins_refl whole) (leb-true _ slots p) Holds (length met) s records [] (fresh_of M s) refl h long)
        (slotless-b fits_b (leb-true _ slots p) (leb-false _ slots p') Fails (length met) s records (map (record_of M whole) a) _ refl h (long_a whole _))
    go true true p p' =
        let whole = met ++ s ∷ [] ++ a ++ b in
        state_slotted M slots f (length met) s _ _ _ None q
        (way_slotted M slots whole v fits_a (begins_append (met ++ s ∷ [] ++ a) b) (leb-true _ slots p) Holds (length met) s records [] (fresh_of M s) refl h long)
        (way_slotted M slots whole w fits_b (begins_refl whole) (leb-true _ slots p') Fails (length met) s records (map (record_of M whole) a) _ refl h (long_a whole _))
        (slotless-c (each_right (a ++ b) c (each_tail fits)) (leb-true _ slots p') (rw (three_ways met s a b c) over)
        Absent (length met) s records (map (record_of M whole) a ++ map (record_of M whole) b) _ refl h (long_b whole _))

new_slotless : (M : Machine) (slots : ℕ) (build : ℕ → M.State → Memory M → Placement M) (o : Outcome) (at : ℕ) (s t : M.State) (m : Memory M)
    → M.step o s ≡ t → meets M m.met t ≡ false → (length m.met < slots → build (length m.met) t (stored M t m) ≡ None)
    → place_way M slots build o at s m ≡ None
unfolding and_then
new_slotless M slots build o at s t m leads e built = go (leb slots (length m.met)) refl
  where
    go : (b : Bool) → leb slots (length m.met) ≡ b → place_way M slots build o at s m ≡ None
    go true h = way_unslotted M slots build o at s t m leads e (leb-true _ _ h)
    go false h = rw (way_new M slots build o at s t m leads e (leb-false _ _ h), built (leb-false _ _ h))

way_slotless : (M : Machine) (slots : ℕ) {f : ℕ} {met news : List M.State} {t : M.State} → Visits M f met t news → SlotlessIf M slots f met t news
unfolding stored
way_slotless M slots {met} (old e) fits bound over o at s before after r leads hb hl =
    absurd (omega (arith, length-append met []))
way_slotless M slots {f} {met} {t} (final e q) fits bound over o at s before after r leads hb hl =
    way_unslotted M slots (place_state M slots f) o at s t (holding met (before ++ r ∷ after)) leads e (omega (arith, length-append met (t ∷ [])))
way_slotless M slots {met} {t} (asking {f = f} {a = a} {b = b} {c = c} e q v w z) fits bound over o at s before after r leads hb hl =
    new_slotless M slots (place_state M slots (suc f)) o at s t (holding met (before ++ r ∷ after)) leads e
    (λ one. built_slotless M slots f met a b c t (before ++ r ∷ after) q hl fits one over v w
    (λ fits bound over o at s before after r leads hb hl. way_slotless M slots v fits bound over o at s before after r leads hb hl)
    (λ fits bound over o at s before after r leads hb hl. way_slotless M slots w fits bound over o at s before after r leads hb hl)
    (λ fits bound over o at s before after r leads hb hl. way_slotless M slots z fits bound over o at s before after r leads hb hl))

-- The whole.

all_some : (M : Machine) (slots f : ℕ) (s : M.State) → 0 < slots
    → place_all M slots f s ≡ place_state M slots f 0 s (holding (s ∷ []) (fresh_of M s ∷ []))
unfolding place_all stored
all_some M slots f s h = rw (lt-leb slots 0 h, place_all)

all_none : (M : Machine) (slots f : ℕ) (s : M.State) → slots ≤ 0 → place_all M slots f s ≡ None
unfolding place_all
all_none M slots f s h = rw (le-leb slots 0 h, place_all)

pub placed_slotted : (M : Machine) (slots : ℕ) {f : ℕ} {news : List M.State} {s : M.State} → Visits M f [] s news → Each (Fit M) news → length news ≤ slots
    → place_all M slots f s ≡ Some (holding news (map (record_of M news) news))
placed_slotted M slots {s} (old e) fits bound = absurd (false≢true (sym (meets_nil M s) ∙ e))
placed_slotted M slots {f} {s} (final e q) fits bound =
    rw (← record_final M (s ∷ []) s q) (all_some M slots f s (omega arith) ∙ state_final M slots f 0 s _ q)
placed_slotted M slots {s} (asking {f = f} {a = a} {b = b} {c = c} e q v w z) fits bound =
    let whole = s ∷ (a ++ b ++ c) in
    all_some M slots (suc f) s (omega arith)
    ∙ built_slotted M slots f whole [] a b c s [] q refl fits (begins_refl whole) bound (way_slotted M slots whole v) (way_slotted M slots whole w) (way_slotted M slots whole z)

pub placed_slotless : (M : Machine) (slots : ℕ) {f : ℕ} {news : List M.State} {s : M.State} → Visits M f [] s news → Each (Fit M) news → slots < length news
    → place_all M slots f s ≡ None
placed_slotless M slots {s} (old e) fits over = absurd (false≢true (sym (meets_nil M s) ∙ e))
placed_slotless M slots {f} {s} (final e q) fits over = all_none M slots f s (omega arith)
placed_slotless M slots {s} (asking {f = f} {a = a} {b = b} {c = c} e q v w z) fits over = go (leb slots 0) refl
  where
    go : (x : Bool) → leb slots 0 ≡ x → place_all M slots (suc f) s ≡ None
    go true h = all_none M slots (suc f) s (leb-true slots 0 h)
    go false h =
        all_some M slots (suc f) s (leb-false slots 0 h)
        ∙ built_slotless M slots f [] a b c s [] q refl fits (leb-false slots 0 h) over v w (way_slotless M slots v) (way_slotless M slots w) (way_slotless M slots z)

pub placed_visits : (M : Machine) (slots : ℕ) {f : ℕ} {news : List M.State} {s : M.State} → Visits M f [] s news → Each (Fit M) news
    → place_all M slots f s ≡ cond (leb (length news) slots) (Some (holding news (map (record_of M news) news))) None
placed_visits M slots {f} {news} {s} v fits = go (leb (length news) slots) refl
  where
    go : (x : Bool) → leb (length news) slots ≡ x → place_all M slots f s ≡ cond x (Some (holding news (map (record_of M news) news))) None
    go true h = placed_slotted M slots v fits (leb-true _ slots h)
    go false h = placed_slotless M slots v fits (leb-false _ slots h)
