-- Well-formed states: every test that remains is one that refusals 5 to 9 leave. The start of a well-formed list is well formed, and each step keeps it so.
--   well_state s   every test that remains in s is well formed
use Rattle.std.specs.Prelude.{ℕ, ◌≡◌, refl, Bool, true, ◌&&◌, List, [], ◌∷◌, map, ltb, eqb, Option}
use Rattle.std.proofs.Common.{ap, ◌∙◌, subst, eqb-true}
use Rattle.residue.specs.inner.Well.{well_formed, well_known}
use Rattle.residue.specs.Residues.{residue_by}
use Rattle.residue.specs.laws.Choice.{both, first, second}
use Rattle.residue.specs.laws.Questions.{fact_well}
use Rattle.residue.specs.laws.Narrowing.{residue_narrows, narrows_well, every_more}
use Rattle.residue.specs.declared.Test.{Test}
use Rattle.residue.specs.declared.Outcome.{Outcome}
use Rattle.residue.specs.inner.Relations.{narrows}
use Rattle.fields.specs.Widths.{full, field_count}
use Rattle.lists.specs.inner.Well.{well_item, well_items, well_filter, well_filters}
use Rattle.lists.specs.Filters.{Item, Filter}
use Rattle.lists.specs.laws.Accepted.{well_items_lem}
use Rattle.states.specs.States.{State, all_left, start, step_by}
use Rattle.states.specs.Runs.{follow}
use Rattle.states.proofs.laws.Standings.{fact_by}
use Rattle.states.proofs.laws.Choices.{leads_keeps}
use Rattle.states.specs.inner.Choices.{left_in, Leads, Free}
use Rattle.states.proofs.laws.Keeps.{follow_leads}
use Rattle.states.specs.inner.Well.{every_item, every_standing, every_state, well_state}
use Rattle.states.proofs.laws.Every.{leaves, every_left_lem, every_closed, every_step}

-- ---- an item and its parts

pub item_field : (t : Item) → well_item t ≡ true → ltb t.field field_count ≡ true
unfolding well_item
item_field t h = first (ltb t.field field_count) (well_formed (full t.field) t.test) h

pub item_test : (t : Item) → well_item t ≡ true → well_formed (full t.field) t.test ≡ true
unfolding well_item
item_test t h = second (ltb t.field field_count) (well_formed (full t.field) t.test) h

-- The test of an item on field n, over the width of n.
pub item_on : (n : ℕ) (t : Item) → eqb t.field n ≡ true → well_item t ≡ true → well_formed (full n) t.test ≡ true
item_on n t e h = subst (λ (m : ℕ). well_formed (full m) t.test ≡ true) (eqb-true t.field n e) (item_test t h)

pub fact_known : (o : Outcome) (q : Item) → well_item q ≡ true → well_known (full q.field) (fact_by o q) ≡ true
fact_known o q h = fact_well (full q.field) o q.test (item_test q h)

-- ---- the start

pub every_well : (ts : List Item) → every_item well_item ts ≡ well_items ts
unfolding every_item well_items
every_well [] = refl
every_well (t ∷ ts) = ap (λ (b : Bool). well_item t && b) (every_well ts)

well_all : (fs : List Filter) → well_filters fs ≡ true → well_state (map all_left fs) ≡ true
unfolding well_filters every_state every_standing all_left
well_all [] h = refl
well_all (f ∷ fs) h =
    both (every_item well_item f.tests) (well_state (map all_left fs)) (every_well f.tests ∙ well_items_lem f (first (well_filter f) (well_filters fs) h))
    (well_all fs (second (well_filter f) (well_filters fs) h))

pub well_start : (fs : List Filter) → well_filters fs ≡ true → well_state (start fs) ≡ true
unfolding start
well_start fs h = every_closed well_item fs (map all_left fs) (well_all fs h)

-- ---- the question and the step

pub well_left_lem : (s : State) (q : Item) → well_state s ≡ true → left_in q s ≡ true → well_item q ≡ true
well_left_lem s q h e = every_left_lem well_item s q h e

-- What a fact leaves of a well-formed item is one.
pub item_leaves :
    (n : ℕ) (k : Option Test) (t : Item) → eqb t.field n ≡ true → well_item t ≡ true → leaves well_item n (residue_by (full n) k t.test) ≡ true
unfolding well_item
item_leaves n k t e h =
    every_more (narrows t.test) (λ (u : Test). well_item (record { field = n; test = u })) (residue_by (full n) k t.test)
    (λ u r.
    both (ltb n field_count) (well_formed (full n) u) (subst (λ (m : ℕ). ltb m field_count ≡ true) (eqb-true t.field n e) (item_field t h))
    (narrows_well (full n) t.test u (item_on n t e h) r))
    (residue_narrows (full n) k t.test (item_on n t e h))

pub well_step : (fs : List Filter) (o : Outcome) (q : Item) (s : State) → well_state s ≡ true → well_state (step_by fs o q s) ≡ true
well_step fs o q s h = every_step well_item well_item fs o q s (λ t g e. item_leaves q.field (fact_by o q) t e g) (λ t g e. g) h

-- ---- paths

pub well_leads : {fs : List Filter} {n : ℕ} {s t : State} → Leads fs Free n s t → well_state s ≡ true → well_state t ≡ true
well_leads {fs} p h = leads_keeps (λ (x : State). well_state x ≡ true) (λ q o x _ g. well_step fs o q x g) p h

pub well_follow : (fs : List Filter) (os : List Outcome) (s : State) → well_state s ≡ true → well_state (follow fs os s) ≡ true
well_follow fs os s h = well_leads (follow_leads fs os s).1 h
