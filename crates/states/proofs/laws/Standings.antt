-- What a state says of one filter: after a division, after closing, at the start. With these three every law is about one filter at a time.
--   fact_by o q      the fact that the question q gives at the outcome o
--   divided o q s   the state s once the question q came to o, not yet closed
use Rattle.std.specs.Prelude.{ℕ, zero, suc, ◌+◌, ◌≤◌, ◌<◌, ◌≡◌, refl, Bool, true, false, cond, ◌&&◌, List, [], ◌∷◌, map, length, Option}
use Rattle.std.proofs.Common.{sym, ap, ◌∙◌, add-zero, zero-add, not-suc-le-zero, le_of_suc-le-suc, arith}
use Rattle.std.proofs.lemmas.List.{length-map}
use Rattle.std.proofs.Math.ListN.{get_or-map, get_or-eq_default}
use Rattle.residue.specs.Facts.{fact_of}
use Rattle.residue.specs.laws.Choice.{both, first, second}
use Rattle.residue.specs.declared.Outcome.{Outcome}
use Rattle.fields.specs.Widths.{full}
use Rattle.lists.specs.Filters.{Item, Filter}
use Rattle.sets.specs.laws.Members.{some_true, some_where}
use Rattle.lists.specs.Ranks.{tests_of, above}
use Rattle.states.specs.States.{out, left, State, standing, is_held, cut_standing, beaten, closed_from, closed, all_left, start, step_by}
use Rattle.residue.specs.declared.Test.{Test}

abbrev pub fact_by : Outcome → Item → Option Test
fact_by o q = fact_of (full q.field) o q.test

unfoldable pub divided : Outcome → Item → State → State
divided o q s = map (cut_standing q.field (fact_by o q)) s

pub step_closes : (fs : List Filter) (o : Outcome) (q : Item) (s : State) → step_by fs o q s ≡ closed fs (divided o q s)
unfolding step_by divided
step_closes fs o q s = refl

pub standing_divided : (o : Outcome) (q : Item) (s : State) (i : ℕ) → standing (divided o q s) i ≡ cut_standing q.field (fact_by o q) (standing s i)
unfolding divided cut_standing
standing_divided o q s i = get_or-map (cut_standing q.field (fact_by o q)) s i out

out_either : (b : Bool) → cond b out out ≡ out
out_either true = refl
out_either false = refl

standing_from : (fs : List Filter) (s : State) (k : ℕ) (xs : State) (i : ℕ) → standing (closed_from fs s k xs) i ≡ cond (beaten fs s (k + i)) out (standing xs i)
unfolding closed_from
standing_from fs s k [] i = sym (out_either (beaten fs s (k + i)))
standing_from fs s k (x ∷ xs) zero = ap (λ (j : ℕ). cond (beaten fs s j) out x) (sym (add-zero k))
standing_from fs s k (x ∷ xs) (suc i) =
    standing_from fs s (k + 1) xs i ∙ ap (λ (j : ℕ). cond (beaten fs s j) out (standing xs i)) (omega arith)

pub standing_closed : (fs : List Filter) (s : State) (i : ℕ) → standing (closed fs s) i ≡ cond (beaten fs s i) out (standing s i)
unfolding closed
standing_closed fs s i = standing_from fs s 0 s i ∙ ap (λ (j : ℕ). cond (beaten fs s j) out (standing s i)) (zero-add i)

-- A filter of the list, before closing.
pub standing_all : (fs : List Filter) (i : ℕ) → i < length fs → standing (map all_left fs) i ≡ left (tests_of fs i)
unfolding all_left
standing_all [] i l = absurd (not-suc-le-zero l)
standing_all (f ∷ fs) zero l = refl
standing_all (f ∷ fs) (suc i) l = standing_all fs i (le_of_suc-le-suc l)

pub standing_beyond : (s : State) (i : ℕ) → length s ≤ i → standing s i ≡ out
standing_beyond s i l = get_or-eq_default s out l

-- ---- who is beaten

pub beaten_where : (fs : List Filter) (s : State) (i : ℕ) → beaten fs s i ≡ true → (j : ℕ) × (j < length fs) × (above fs j i ≡ true) × (is_held (standing s j) ≡ true)
unfolding beaten
beaten_where fs s i e =
    let w = some_where (length fs) (λ j. above fs j i && is_held (standing s j)) e in
    let a = above fs w.0 i in
    let h = is_held (standing s w.0) in
    (w.0, w.1, first a h w.2, second a h w.2)

pub where_beaten : (fs : List Filter) (s : State) (i j : ℕ) → j < length fs → above fs j i ≡ true → is_held (standing s j) ≡ true → beaten fs s i ≡ true
unfolding beaten
where_beaten fs s i j l a h =
    some_true (length fs) (λ k. above fs k i && is_held (standing s k)) j l (both (above fs j i) (is_held (standing s j)) a h)

-- ---- lengths

length_from : (fs : List Filter) (s : State) (k : ℕ) (xs : State) → length (closed_from fs s k xs) ≡ length xs
unfolding closed_from
length_from fs s k [] = refl
length_from fs s k (x ∷ xs) = ap suc (length_from fs s (k + 1) xs)

pub length_closed : (fs : List Filter) (s : State) → length (closed fs s) ≡ length s
unfolding closed
length_closed fs s = length_from fs s 0 s

pub length_step : (fs : List Filter) (o : Outcome) (q : Item) (s : State) → length (step_by fs o q s) ≡ length s
unfolding step_by
length_step fs o q s = length_closed fs (map (cut_standing q.field (fact_by o q)) s) ∙ length-map s (cut_standing q.field (fact_by o q))

pub length_start : (fs : List Filter) → length (start fs) ≡ length fs
unfolding start
length_start fs = length_closed fs (map all_left fs) ∙ length-map fs all_left
