-- What a step never takes back: a sure filter stays sure and an out filter stays out, whatever the outcome. Closed states stay closed.
use Rattle.std.specs.Prelude.{ℕ, ◌≡◌, refl, Bool, true, false, cond, List, [], ◌∷◌, map, Option}
use Rattle.std.proofs.lemmas.Bool.{false≢true}
use Rattle.residue.specs.laws.Choice.{by_cond, never, clash}
use Rattle.residue.specs.declared.Outcome.{Outcome}
use Rattle.lists.specs.Filters.{Item, Filter}
use Rattle.states.specs.States.{Standing, out, left, State, standing, is_held, is_out, cut, cut_standing, beaten, closed, all_left, start, step_by, sure}
use Rattle.states.proofs.laws.Standings.{fact_by, divided, step_closes, standing_divided, standing_closed, beaten_where, where_beaten}
use Rattle.states.proofs.laws.Choices.{leads_keeps}
use Rattle.states.specs.inner.Choices.{Leads, Free}
use Rattle.states.proofs.laws.Sure.{not_held_out, Shut, sure_held, sure_above, held_sure}
use Rattle.residue.specs.declared.Test.{Test}

-- ---- closing

out_is : is_out out ≡ true
unfolding is_out
out_is = refl

out_not_held : is_held out ≡ false
unfolding is_held
out_not_held = refl

-- A held filter after closing was held before.
closed_held : (b : Bool) (x : Standing) → is_held (cond b out x) ≡ true → is_held x ≡ true
closed_held true x e = clash (is_held out) e out_not_held
closed_held false x e = e

pub shut_closed : (fs : List Filter) (s : State) → Shut fs (closed fs s)
shut_closed fs s i j l a h =
    let g : is_held (standing s j) ≡ true = closed_held (beaten fs s j) (standing s j) (rw (standing_closed fs s j) at h) in
    rw (standing_closed fs s i, where_beaten fs s i j l a g) out_is

pub shut_start : (fs : List Filter) → Shut fs (start fs)
unfolding start
shut_start fs = shut_closed fs (map all_left fs)

pub shut_step : (fs : List Filter) (o : Outcome) (q : Item) (s : State) → Shut fs (step_by fs o q s)
shut_step fs o q s = rw (step_closes fs o q s) (shut_closed fs (divided o q s))

-- ---- out stays

cut_out : (n : ℕ) (k : Option Test) (x : Standing) → is_out x ≡ true → is_out (cut_standing n k x) ≡ true
unfolding cut_standing is_out
cut_out n k out e = refl
cut_out n k (left ts) e = absurd (false≢true e)

out_divided : (o : Outcome) (q : Item) (s : State) (i : ℕ) → is_out (standing s i) ≡ true → is_out (standing (divided o q s) i) ≡ true
out_divided o q s i e = rw (standing_divided o q s i) (cut_out q.field (fact_by o q) (standing s i) e)

out_closed : (fs : List Filter) (s : State) (i : ℕ) → is_out (standing s i) ≡ true → is_out (standing (closed fs s) i) ≡ true
out_closed fs s i e = rw (standing_closed fs s i) (by_cond (λ (x : Standing). is_out x ≡ true) (beaten fs s i) (λ _. out_is) (λ _. e))

pub out_stays : (fs : List Filter) (o : Outcome) (q : Item) (s : State) (i : ℕ) → is_out (standing s i) ≡ true → is_out (standing (step_by fs o q s) i) ≡ true
out_stays fs o q s i e = rw (step_closes fs o q s) (out_closed fs (divided o q s) i (out_divided o q s i e))

-- ---- sure stays

cut_held : (n : ℕ) (k : Option Test) (x : Standing) → is_held x ≡ true → is_held (cut_standing n k x) ≡ true
unfolding cut_standing cut is_held
cut_held n k out e = absurd (false≢true e)
cut_held n k (left []) e = refl
cut_held n k (left (t ∷ ts)) e = absurd (false≢true e)

held_divided : (o : Outcome) (q : Item) (s : State) (i : ℕ) → is_held (standing s i) ≡ true → is_held (standing (divided o q s) i) ≡ true
held_divided o q s i e = rw (standing_divided o q s i) (cut_held q.field (fact_by o q) (standing s i) e)

sure_not_beaten : (fs : List Filter) (o : Outcome) (q : Item) (s : State) (i : ℕ) → sure fs s i ≡ true → beaten fs (divided o q s) i ≡ false
sure_not_beaten fs o q s i e =
    never (beaten fs (divided o q s) i)
    (λ b.
    let w = beaten_where fs (divided o q s) i b in
    clash (is_out (standing (divided o q s) w.0))
    (out_divided o q s w.0 (sure_above fs s i e w.0 w.1 w.2))
    (not_held_out (standing (divided o q s) w.0) w.3))

sure_held_stays : (fs : List Filter) (o : Outcome) (q : Item) (s : State) (i : ℕ) → sure fs s i ≡ true → is_held (standing (step_by fs o q s) i) ≡ true
sure_held_stays fs o q s i e =
    rw (step_closes fs o q s, standing_closed fs (divided o q s) i, sure_not_beaten fs o q s i e) (held_divided o q s i (sure_held fs s i e))

pub sure_stays : (fs : List Filter) (o : Outcome) (q : Item) (s : State) (i : ℕ) → sure fs s i ≡ true → sure fs (step_by fs o q s) i ≡ true
sure_stays fs o q s i e =
    held_sure fs (step_by fs o q s) i (sure_held_stays fs o q s i e) (λ j l a. out_stays fs o q s j (sure_above fs s i e j l a))

-- ---- along a path

module _ (fs : List Filter) {n : ℕ} {s t : State} (p : Leads fs Free n s t) where
  pub leads_shut : Shut fs s → Shut fs t
  leads_shut c = leads_keeps (Shut fs) (λ q o x _ _. shut_step fs o q x) p c

  pub leads_sure : (i : ℕ) → sure fs s i ≡ true → sure fs t i ≡ true
  leads_sure i e = leads_keeps (λ (x : State). sure fs x i ≡ true) (λ q o x _ z. sure_stays fs o q x i z) p e

  pub leads_out : (i : ℕ) → is_out (standing s i) ≡ true → is_out (standing t i) ≡ true
  leads_out i e = leads_keeps (λ (x : State). is_out (standing x i) ≡ true) (λ q o x _ z. out_stays fs o q x i z) p e
