-- One more filter is one more bit.
use Rattle.std.proofs.Common.{ℕ, Bool, true, false, ◌+◌, ◌*◌, ◌^◌, ◌<◌, refl, sym, ap₂, ◌∙◌, add-one, pow-suc, lit<, arith}
use Rattle.sets.specs.Sets.{bit, set_of, tally}
use Rattle.sets.specs.laws.Members.{tally_put}
use Rattle.lists.proofs.set_where.Goals as goal

put_small : (b : Bool) (s i : ℕ) → s < 2 ^ i → bit b * 2 ^ i + s < 2 ^ (i + 1)
put_small true s i h = rw add-one (omega (arith, pow-suc 2 i))
put_small false s i h = rw add-one (omega (arith, pow-suc 2 i))

pub loop-i-init : goal.loop-i-init
unfolding set_of tally
loop-i-init g c = record { small = lit< tt; those = λ p h. refl }

pub loop-i-preserved : goal.loop-i-preserved
loop-i-preserved g c = record {
  small = rw c.put-set.ensures (put_small _ c.loop-i.set c.loop-i.i c.loop-i.invariant.small);
  those = λ p h.
      c.put-set.ensures ∙
      ap₂ (λ (x : Bool) (y : ℕ). bit x * 2 ^ c.loop-i.i + y) (h c.loop-i.i c.test.result c.loop-i-test.true c.test.ensures) (c.loop-i.invariant.those p h) ∙
      sym (tally_put c.loop-i.i p);
}
