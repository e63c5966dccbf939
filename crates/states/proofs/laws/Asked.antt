-- No path asks the same question twice: once q was asked, no remaining test on its field asks all of q again, and no later step brings one back.
--   spent_item q t   t is on another field than q, or does not ask all of q
--   fresh_item q t   t is well formed and spent_item q t
use Rattle.std.specs.Prelude.{◌≡◌, refl, ℕ, Bool, true, cond, ◌&&◌, List, eqb}
use Rattle.std.proofs.Common.{sym, ◌∙◌, subst, eqb-true, eq-eqb}
use Rattle.std.proofs.lemmas.Bool.{false≢true}
use Rattle.residue.specs.laws.Choice.{by_cond, both, first, second}
use Rattle.residue.specs.inner.Relations.{spent, every_left}
use Rattle.residue.specs.Residues.{residue_by}
use Rattle.residue.specs.laws.Narrowing.{same_test_refl}
use Rattle.residue.specs.laws.Spent.{question_spent, spent_stays, spent_other}
use Rattle.residue.specs.declared.Outcome.{Outcome}
use Rattle.residue.specs.declared.Residue.{Residue}
use Rattle.residue.specs.declared.Residue.TheVariants.{True, False, Left}
use Rattle.fields.specs.Widths.{full}
use Rattle.lists.specs.inner.Well.{well_item}
use Rattle.lists.specs.Filters.{Item, Filter}
use Rattle.states.specs.States.{State, ask, question_of, step_by}
use Rattle.states.specs.Runs.{follow}
use Rattle.states.proofs.laws.Standings.{fact_by}
use Rattle.states.proofs.laws.Choices.{leads_keeps}
use Rattle.states.specs.inner.Choices.{left_in, Leads, Free}
use Rattle.states.proofs.laws.Keeps.{question_left, follow_leads}
use Rattle.states.proofs.laws.Every.{leaves, every_left_lem, every_step}
use Rattle.states.specs.inner.Well.{every_state}
use Rattle.states.proofs.laws.Well.{item_test, item_on, item_leaves, well_left_lem}
use Rattle.states.specs.inner.Well.{well_state}

unfoldable pub spent_item : Item → Item → Bool
spent_item q t = cond (eqb t.field q.field) (spent q.test t.test) true

unfoldable pub fresh_item : Item → Item → Bool
fresh_item q t = well_item t && spent_item q t

fresh_well : (q t : Item) → fresh_item q t ≡ true → well_item t ≡ true
unfolding fresh_item
fresh_well q t h = first (well_item t) (spent_item q t) h

fresh_spent : (q t : Item) → fresh_item q t ≡ true → eqb t.field q.field ≡ true → spent q.test t.test ≡ true
unfolding fresh_item spent_item
fresh_spent q t h e =
    subst (λ (b : Bool). cond b (spent q.test t.test) true ≡ true) e (second (well_item t) (spent_item q t) h)

-- A residue that leaves a well-formed item, spent where it is on q's field, leaves a fresh one.
leaves_fresh :
    (q : Item) (n : ℕ) (d : Residue) → leaves well_item n d ≡ true → (eqb n q.field ≡ true → every_left (spent q.test) d ≡ true) → leaves (fresh_item q) n d ≡ true
unfolding every_left fresh_item spent_item
leaves_fresh q n True h f = refl
leaves_fresh q n False h f = refl
leaves_fresh q n (Left u) h f =
    both (well_item (record { field = n; test = u })) (cond (eqb n q.field) (spent q.test u) true) h
    (by_cond (λ (b : Bool). b ≡ true) (eqb n q.field) f (λ _. refl))

-- Once q was asked every remaining item is fresh.
pub asked_fresh : (fs : List Filter) (o : Outcome) (q : Item) (s : State) → well_item q ≡ true → well_state s ≡ true → every_state (fresh_item q) (step_by fs o q s) ≡ true
unfolding fresh_item spent_item
asked_fresh fs o q s hq h =
    every_step well_item (fresh_item q) fs o q s
    (λ t g e.
    leaves_fresh q q.field (residue_by (full q.field) (fact_by o q) t.test) (item_leaves q.field (fact_by o q) t e g)
    (λ _. question_spent (full q.field) o q.test t.test (item_test q hq)))
    (λ t g e. both (well_item t) (cond (eqb t.field q.field) (spent q.test t.test) true) g (rw e))
    h

pub fresh_step : (q : Item) (fs : List Filter) (o : Outcome) (p : Item) (s : State) → every_state (fresh_item q) s ≡ true → every_state (fresh_item q) (step_by fs o p s) ≡ true
fresh_step q fs o p s h =
    every_step (fresh_item q) (fresh_item q) fs o p s
    (λ t g e.
    leaves_fresh q p.field (residue_by (full p.field) (fact_by o p) t.test) (item_leaves p.field (fact_by o p) t e (fresh_well q t g))
    (λ z.
    spent_stays (full p.field) (fact_by o p) q.test t.test (item_on p.field t e (fresh_well q t g))
    (fresh_spent q t g (eq-eqb t.field q.field (eqb-true t.field p.field e ∙ eqb-true p.field q.field z)))))
    (λ t g e. g)
    h

-- A fresh item is not the question.
fresh_other : (q : Item) → well_item q ≡ true → fresh_item q q ≡ true → ⊥
fresh_other q h f =
    false≢true
    (sym (spent_other (full q.field) q.test q.test (item_test q h) (fresh_spent q q f (eq-eqb q.field q.field refl))) ∙ same_test_refl q.test)

-- Once q was asked it is no remaining test of any state that a path leads to, whatever the questions and the outcomes.
pub left_once :
    (fs : List Filter) (o : Outcome) (q : Item) (s : State) → well_state s ≡ true → left_in q s ≡ true → {n : ℕ} {t : State} → Leads fs Free n (step_by fs o q s) t →
    left_in q t ≡ true → ⊥
left_once fs o q s h e {n} {t} p again =
    let hq = well_left_lem s q h e in
    let fresh = leads_keeps (λ (x : State). every_state (fresh_item q) x ≡ true) (λ p o' x _ f. fresh_step q fs o' p x f) p (asked_fresh fs o q s hq h) in
    fresh_other q hq (every_left_lem (fresh_item q) t q fresh again)

-- So document 01's question is not asked again, whatever outcomes follow.
pub never_twice :
    (fs : List Filter) (o : Outcome) (os : List Outcome) (q : Item) (s : State) → well_state s ≡ true → question_of s ≡ ask q →
    question_of (follow fs os (step_by fs o q s)) ≡ ask q → ⊥
never_twice fs o os q s h e again =
    left_once fs o q s h (question_left q s e) (follow_leads fs os (step_by fs o q s)).1 (question_left q _ again)
