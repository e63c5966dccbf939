-- `tables::agreeing` meets its contract: no record before the pair that it finds agrees, so the first that does is the first from there on.
-- Assumes nothing.
use Prim.Native.Nat.{ℕ, ◌+◌, ◌*◌, ◌-◌, ◌/◌, ◌≤◌}
use native.Mathlib.Omega.{arith}
use borrow.Author.Tests.{tests}
use Rattle.std.specs.Option.{unwrap_or}
use Rattle.std.proofs.Common.{rules, refl, sym, ap, ◌∙◌, ◌≡◌}
use Rattle.std.proofs.Math.Nat.{sub-zero}
use Rattle.std.proofs.lemmas.Iterator.{YieldsList-from_range}
use Rattle.std.proofs.lemmas.Iterator.Adapters.{option_map_id}
use Rattle.std.proofs.lemmas.Iterator.Search.{find_from_yields_List}
use Rattle.tables.specs.inner.Records.{agree, fresh_by, record_at, agreeing_from}
use Rattle.tables.proofs.laws.Agreeing.{in_pair, agreeing_find, agreeing_pairs}
use Rattle.tables.proofs.agreeing.Goals as goal
use Rattle.tables.proofs.agreeing.Goals.{After-unwrap_or}

-- The search may begin at the pair, which is none behind those looked at.
abbrev Left : After-unwrap_or → Type 0
Left c =
    let t = c.args.table.now in
    let f = fresh_by c.args.fresh in
    let first = c.args.from + 2 * c.unwrap_or.result in
    (2 * c.unwrap_or.result ≤ c.args.end - c.args.from) × (agreeing_from (c.args.end - c.args.from) c.args.from t f ≡ agreeing_from (c.args.end - first) first t f)

left : (c : After-unwrap_or) → Left c
left c =
    let pair =
    find_from_yields_List (λ i. in_pair c.args.table.now (fresh_by c.args.fresh) (c.args.from + 2 * i)) _ _ c.find-pair.result c.find-pair.ensures.ran
    (YieldsList-from_range 0 ((c.args.end - c.args.from) / 2) ((c.args.end - c.args.from) / 2) refl (sub-zero ((c.args.end - c.args.from) / 2)))
    (λ x b q k. search (rules, tests)) in
    agreeing_pairs c.args.table.now (fresh_by c.args.fresh) c.args.from c.args.end c.unwrap_or.result
    (sym (c.unwrap_or.ensures ∙ ap (λ o. unwrap_or o ((c.args.end - c.args.from) / 2)) (sym (option_map_id c.find-pair.result) ∙ pair)))

pub overflow_mul-first : goal.overflow_mul-first
overflow_mul-first c = let bound = (left c).0 in omega (arith, bound)

pub overflow_add-first : goal.overflow_add-first
overflow_add-first c = let bound = (left c).0 in omega (arith, bound)

pub returns : goal.returns
returns c =
    let first =
    find_from_yields_List (λ n. agree (record_at c.args.table.now n) (fresh_by c.args.fresh)) _ _ c.find.result c.find.ensures.ran
    (YieldsList-from_range (c.args.from + 2 * c.unwrap_or.result) c.args.end _ (ap (λ (e : ℕ). record { start = c.args.from + 2 * c.unwrap_or.result; end = e }) (omega arith)) refl)
    (λ x b q k. search (rules, tests)) in
    sym (option_map_id c.find.result) ∙ first ∙ sym (agreeing_find _ _ (c.args.end - (c.args.from + 2 * c.unwrap_or.result)) (c.args.from + 2 * c.unwrap_or.result)) ∙ sym (left (goal.at.returns c).After-unwrap_or).1
