-- The number of remaining tests falls at each question that is one of them, so a path ends, after as many questions as the list has tests at most.
use Rattle.std.specs.Prelude.{ℕ, suc, ◌+◌, ◌≤◌, ◌<◌, ◌≡◌, refl, Bool, true, false, cond, List, [], ◌∷◌, map, eqb, length, Option}
use Rattle.std.proofs.Common.{ap, subst, le_refl, arith, eq-eqb}
use Rattle.std.proofs.lemmas.Bool.{false≢true}
use Rattle.residue.specs.Residues.{residue_by}
use Rattle.residue.specs.laws.Choice.{by_cond, either}
use Rattle.residue.specs.inner.Relations.{is_settled}
use Rattle.residue.specs.laws.Questions.{residue_own}
use Rattle.residue.specs.declared.Outcome.{Outcome}
use Rattle.residue.specs.declared.Residue.{Residue}
use Rattle.residue.specs.declared.Residue.TheVariants.{True, False, Left}
use Rattle.fields.specs.Widths.{full}
use Rattle.lists.specs.inner.Well.{well_item, well_filters}
use Rattle.lists.specs.Filters.{Item, Filter, tests_in}
use Rattle.states.specs.States.{Standing, out, left, State, keep, join, cut, cut_standing, beaten, closed_from, closed, all_left, start, Question, nothing, ask, question_of, step_by, step}
use Rattle.states.specs.inner.Remaining.{remaining_in, remaining}
use Rattle.states.specs.Runs.{asks, asks_all}
use Rattle.states.proofs.laws.Standings.{fact_by}
use Rattle.states.specs.Same.{same_item}
use Rattle.states.proofs.laws.Same.{same_item_eq}
use Rattle.states.specs.inner.Choices.{among, left_in, Leads, leads_none, leads_more, Free}
use Rattle.states.proofs.laws.Well.{item_test, well_start, well_left_lem, well_step}
use Rattle.states.specs.inner.Well.{well_state}
use Rattle.states.proofs.laws.Keeps.{none_asked, by_question, question_left, step_ask, follow_leads}
use Rattle.residue.specs.declared.Test.{Test}

-- ---- dividing and closing add no test

keep_le : (t : Item) (x : Standing) → remaining_in (keep t x) ≤ suc (remaining_in x)
unfolding keep remaining_in
keep_le t out = omega arith
keep_le t (left ts) = le_refl _

join_le : (n : ℕ) (d : Residue) (x : Standing) → remaining_in (join n d x) ≤ suc (remaining_in x)
unfolding join remaining_in
join_le n True x = omega arith
join_le n False x = omega arith
join_le n (Left u) x = keep_le (record { field = n; test = u }) x

join_settled : (n : ℕ) (d : Residue) (x : Standing) → is_settled d ≡ true → remaining_in (join n d x) ≤ remaining_in x
unfolding join is_settled remaining_in
join_settled n True x e = le_refl _
join_settled n False x e = omega arith
join_settled n (Left u) x e = absurd (false≢true e)

cut_le : (n : ℕ) (k : Option Test) (ts : List Item) → remaining_in (cut n k ts) ≤ length ts
unfolding cut remaining_in
cut_le n k [] = le_refl _
cut_le n k (t ∷ ts) =
    by_cond (λ (x : Standing). remaining_in x ≤ suc (length ts)) (eqb t.field n)
    (λ _. omega (arith, join_le n (residue_by (full n) k t.test) (cut n k ts), cut_le n k ts))
    (λ _. omega (arith, keep_le t (cut n k ts), cut_le n k ts))

pub cut_standing_le : (n : ℕ) (k : Option Test) (x : Standing) → remaining_in (cut_standing n k x) ≤ remaining_in x
unfolding cut_standing remaining_in
cut_standing_le n k out = le_refl _
cut_standing_le n k (left ts) = cut_le n k ts

map_le : (n : ℕ) (k : Option Test) (s : State) → remaining (map (cut_standing n k) s) ≤ remaining s
unfolding remaining
map_le n k [] = le_refl _
map_le n k (x ∷ s) = omega (arith, cut_standing_le n k x, map_le n k s)

pub closed_le : (x : Standing) (b : Bool) → remaining_in (cond b out x) ≤ remaining_in x
unfolding remaining_in
closed_le x true = omega arith
closed_le x false = le_refl _

from_le : (fs : List Filter) (s : State) (k : ℕ) (xs : State) → remaining (closed_from fs s k xs) ≤ remaining xs
unfolding closed_from remaining
from_le fs s k [] = le_refl _
from_le fs s k (x ∷ xs) = omega (arith, closed_le x (beaten fs s k), from_le fs s (k + 1) xs)

close_le : (fs : List Filter) (s : State) → remaining (closed fs s) ≤ remaining s
unfolding closed
close_le fs s = from_le fs s 0 s

all_tests : (fs : List Filter) → remaining (map all_left fs) ≡ tests_in fs
unfolding remaining remaining_in all_left tests_in
all_tests [] = refl
all_tests (f ∷ fs) = ap (λ (n : ℕ). length f.tests + n) (all_tests fs)

pub start_remaining : (fs : List Filter) → remaining (start fs) ≤ tests_in fs
unfolding start
start_remaining fs = omega (arith, close_le fs (map all_left fs), all_tests fs)

-- ---- a final state

pub asking_remaining : (s : State) (q : Item) → question_of s ≡ ask q → 0 < remaining s
unfolding question_of remaining remaining_in
asking_remaining [] q e = absurd (none_asked q e)
asking_remaining (out ∷ s) q e = omega (arith, asking_remaining s q e)
asking_remaining (left [] ∷ s) q e = omega (arith, asking_remaining s q e)
asking_remaining (left (t ∷ ts) ∷ s) q e = omega arith

pub none_remaining : (s : State) → remaining s ≡ 0 → question_of s ≡ nothing
none_remaining s h = by_question (question_of s ≡ nothing) s (λ e. e) (λ q e. absurd (omega (arith, asking_remaining s q e)))

-- ---- a question

-- The question's own test is settled, wherever it stands among the tests of a filter.
own_falls : (o : Outcome) (q : Item) (ts : List Item) → well_item q ≡ true → among q ts ≡ true → remaining_in (cut q.field (fact_by o q) ts) < length ts
unfolding cut among
own_falls o q [] h e = absurd (false≢true e)
own_falls o q (t ∷ ts) h e =
    let n = q.field in
    let k = fact_by o q in
    either (remaining_in (cut n k (t ∷ ts)) < suc (length ts)) (same_item q t) (among q ts)
    (λ z.
    subst (λ (u : Item). remaining_in (cut n k (u ∷ ts)) < suc (length ts)) (same_item_eq q t z)
    (rw (eq-eqb n n refl)
    (omega (
      arith,
      join_settled n (residue_by (full n) k q.test) (cut n k ts) (residue_own (full n) o q.test (item_test q h)),
      cut_le n k ts,
    ))))
    (λ z.
    by_cond (λ (x : Standing). remaining_in x < suc (length ts)) (eqb t.field n)
    (λ _. omega (arith, join_le n (residue_by (full n) k t.test) (cut n k ts), own_falls o q ts h z))
    (λ _. omega (arith, keep_le t (cut n k ts), own_falls o q ts h z)))
    e

map_falls :
    (o : Outcome) (q : Item) (s : State) → well_item q ≡ true → left_in q s ≡ true → remaining (map (cut_standing q.field (fact_by o q)) s) < remaining s
unfolding left_in remaining remaining_in cut_standing
map_falls o q [] h e = absurd (false≢true e)
map_falls o q (out ∷ s) h e = omega (arith, map_falls o q s h e)
map_falls o q (left ts ∷ s) h e =
    let n = q.field in
    let k = fact_by o q in
    either (remaining (map (cut_standing n k) (left ts ∷ s)) < remaining (left ts ∷ s)) (among q ts) (left_in q s)
    (λ z. omega (arith, own_falls o q ts h z, map_le n k s))
    (λ z. omega (arith, cut_le n k ts, map_falls o q s h z))
    e

-- A remaining test that is asked is gone, whatever it comes to.
pub left_falls :
    (fs : List Filter) (o : Outcome) (q : Item) (s : State) → well_state s ≡ true → left_in q s ≡ true → remaining (step_by fs o q s) < remaining s
unfolding step_by
left_falls fs o q s h e =
    omega (arith, close_le fs (map (cut_standing q.field (fact_by o q)) s), map_falls o q s (well_left_lem s q h e) e)

pub step_falls :
    (fs : List Filter) (o : Outcome) (q : Item) (s : State) → well_state s ≡ true → question_of s ≡ ask q → remaining (step_by fs o q s) < remaining s
step_falls fs o q s h e = left_falls fs o q s h (question_left q s e)

pub next_falls :
    (fs : List Filter) (o : Outcome) (s : State) → well_state s ≡ true → asks (question_of s) ≡ true → remaining (step fs o s) < remaining s
unfolding asks
next_falls fs o s h a = go (question_of s) refl a
  where
    go : (a : Question) → question_of s ≡ a → asks a ≡ true → remaining (step fs o s) < remaining s
    go nothing e z = absurd (false≢true z)
    go (ask q) e z = rw (step_ask fs o q s e) (step_falls fs o q s h e)

-- ---- a path

pub leads_falls : {fs : List Filter} {n : ℕ} {s t : State} → Leads fs Free n s t → well_state s ≡ true → n + remaining t ≤ remaining s
leads_falls leads_none h = omega arith
leads_falls {fs} (leads_more {s = s} q o e p) h = omega (arith, left_falls fs o q s h e, leads_falls p (well_step fs o q s h))

-- From the start no path is longer than the list has tests.
pub leads_tests : (fs : List Filter) → well_filters fs ≡ true → {n : ℕ} {s : State} → Leads fs Free n (start fs) s → n + remaining s ≤ tests_in fs
leads_tests fs h p = omega (arith, leads_falls p (well_start fs h), start_remaining fs)

pub path_tests : (fs : List Filter) (os : List Outcome) → well_filters fs ≡ true → asks_all fs os (start fs) ≡ true → length os ≤ tests_in fs
path_tests fs os h a =
    let p = follow_leads fs os (start fs) in
    omega (arith, p.2 a, leads_tests fs h p.1)
