-- Laws of and, and of the bits of one number outside another, that the library lacks. A width stands only where a full mask does.
use Rattle.std.specs.Prelude.{ℕ, ◌+◌, ◌-◌, ◌*◌, ◌/◌, ◌%◌, ◌^◌, ◌≤◌, ◌<◌, min, ◌≡◌, refl}
use Rattle.std.proofs.Common.{sym, ap, ◌∙◌, mod-eq_of_lt, arith}
use Rattle.std.proofs.Math.Arith.{bin_ind}
use Rattle.std.specs.Int.Bits.{bit_and, and_step, and_self}
use Rattle.std.proofs.lemmas.Nat.{and_shr, and_assoc, and_comm, and-not, and_le_l, and_le_r, and_mask}
use Rattle.std.proofs.Math.Pow.{pow_pos}
use Rattle.residue.specs.Residues.{outside}

-- ---- halves and lowest digits

and_half : (a b : ℕ) → bit_and a b / 2 ≡ bit_and (a / 2) (b / 2)
and_half a b = and_shr a b 1

and_odd : (a b : ℕ) → bit_and a b % 2 ≡ min (a % 2) (b % 2)
and_odd a b = omega (arith, and_step a b)

outside_step : (a b : ℕ) → outside a b ≡ outside (a / 2) (b / 2) * 2 + (a % 2 - min (a % 2) (b % 2))
unfolding outside
outside_step a b = omega (arith, and_step a b, and_le_l (a / 2) (b / 2))

outside_half : (a b : ℕ) → outside a b / 2 ≡ outside (a / 2) (b / 2)
outside_half a b = omega (arith, outside_step a b)

outside_odd : (a b : ℕ) → outside a b % 2 ≡ a % 2 - min (a % 2) (b % 2)
outside_odd a b = omega (arith, outside_step a b)

-- ---- and

pub and_swap : (a b c : ℕ) → bit_and (bit_and a b) c ≡ bit_and (bit_and a c) b
and_swap a b c = and_assoc c a b ∙ ap (bit_and a) (and_comm b c) ∙ sym (and_assoc b a c)

pub and_twice : (a b : ℕ) → bit_and (bit_and a b) b ≡ bit_and a b
and_twice a b = and_assoc b a b ∙ ap (bit_and a) (and_self b)

-- ---- the bits outside

pub and_add_outside : (a b : ℕ) → bit_and a b + outside a b ≡ a
unfolding outside
and_add_outside a b = omega (arith, and_le_l a b)

pub outside_self : (a : ℕ) → outside a a ≡ 0
unfolding outside
outside_self a = omega (arith, and_self a)

outside_zero : (k : ℕ) → outside 0 k ≡ 0
unfolding outside
outside_zero k = refl

-- And commutes with taking bits away.
pub and_outside : (a m k : ℕ) → bit_and a (outside m k) ≡ outside (bit_and a m) k
and_outside =
    bin_ind (λ (n : ℕ). (m k : ℕ) → bit_and n (outside m k) ≡ outside (bit_and n m) k) (λ m k. sym (outside_zero k))
    (λ n ih m k.
    let l = rw (outside_half m k) at (and_step n (outside m k)) in
    let r = rw (and_half n m) at (outside_step (bit_and n m) k) in
    omega (arith, l, r, ih (m / 2) (k / 2), outside_odd m k, and_odd n m))

outside_twice : (a k : ℕ) → outside (bit_and a k) k ≡ 0
unfolding outside
outside_twice a k = omega (arith, and_twice a k)

-- The mask of a reduced test lies outside the known bits.
pub reduced_outside : (m k : ℕ) → bit_and (outside m k) k ≡ 0
reduced_outside m k = and_comm (outside m k) k ∙ and_outside k m k ∙ ap (λ (x : ℕ). outside x k) (and_comm k m) ∙ outside_twice m k

pub outside_in : (m k : ℕ) → bit_and (outside m k) m ≡ outside m k
outside_in m k = and_comm (outside m k) m ∙ and_outside m m k ∙ ap (λ (x : ℕ). outside x k) (and_self m)

-- ---- a full mask

module _ (k full : ℕ) (e : full ≡ 2 ^ k - 1) where
  below_pow : {x : ℕ} → x ≤ full → x < 2 ^ k
  below_pow h = omega (arith, e, pow_pos k)

  -- A mask and its complement share a number out between them.
  and_complement : (a b : ℕ) → a ≤ full → b ≤ full → bit_and a (full - b) + bit_and a b ≡ a
  and_complement a b ha hb = rw (and_comm a (full - b), and_comm a b, e) (and-not k b a (below_pow hb) (below_pow ha))

  -- The code's m & !b.
  pub and_not : (m b : ℕ) → m ≤ full → b ≤ full → bit_and m (full - b) ≡ outside m b
  unfolding outside
  and_not m b hm hb = omega (arith, and_complement m b hm hb)

  pub and_full : (x : ℕ) → x ≤ full → bit_and x full ≡ x
  and_full x h = ap (bit_and x) e ∙ and_mask x k ∙ mod-eq_of_lt (below_pow h)

  -- A number lies no further above its bits under a mask than the mask leaves room.
  pub le_and_add : (x m : ℕ) → x ≤ full → m ≤ full → x ≤ bit_and x m + (full - m)
  le_and_add x m hx hm = omega (arith, and_complement x m hx hm, and_le_r x (full - m))
