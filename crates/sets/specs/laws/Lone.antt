-- A set of one member at most.
--   alone   a set s with no bit in common with s - 1 has one member at most
-- Assumes nothing.
use Rattle.std.specs.Prelude.{ℕ, zero, suc, ◌+◌, ◌-◌, ◌*◌, ◌/◌, ◌≡◌, refl, Bool, true, false, List, [], ◌∷◌, get_or}
use Rattle.std.proofs.Common.{sym, ap, ap₂, ◌∙◌, arith}
use Rattle.std.proofs.lemmas.Bool.{false≢true}
use Rattle.std.specs.Int.Bits.{bit_and, and_step, and_self}
use Rattle.sets.specs.Sets.{set_of, member}
use Rattle.sets.specs.laws.Members.{member_empty, member_set_of}

none_in : (bs : List Bool) (i : ℕ) → set_of bs ≡ 0 → get_or bs i false ≡ true → ⊥
none_in bs i z p = false≢true (sym (member_empty i) ∙ ap (member i) (sym z) ∙ member_set_of bs i ∙ p)

-- Behind the lowest member there is none.
rest_none : (s : ℕ) → bit_and (s * 2 + 1) (s * 2 + 1 - 1) ≡ 0 → s ≡ 0
rest_none s e =
    let a : (s * 2 + 1) / 2 ≡ s = omega arith in
    let b : (s * 2 + 1 - 1) / 2 ≡ s = omega arith in
    omega (arith, sym (and_step (s * 2 + 1) (s * 2 + 1 - 1)) ∙ e, ap₂ bit_and a b ∙ and_self s)

-- Below it the rest is as the whole.
rest_alone : (s : ℕ) → bit_and (s * 2 + 0) (s * 2 + 0 - 1) ≡ 0 → bit_and s (s - 1) ≡ 0
rest_alone s e =
    let a : (s * 2 + 0) / 2 ≡ s = omega arith in
    let b : (s * 2 + 0 - 1) / 2 ≡ s - 1 = omega arith in
    omega (arith, sym (and_step (s * 2 + 0) (s * 2 + 0 - 1)) ∙ e, ap₂ bit_and a b)

pub alone : (bs : List Bool) → bit_and (set_of bs) (set_of bs - 1) ≡ 0 → (i j : ℕ) → get_or bs i false ≡ true → get_or bs j false ≡ true → i ≡ j
unfolding set_of
alone [] e i j p q = absurd (none_in [] i refl p)
alone (true ∷ bs) e zero zero p q = refl
alone (true ∷ bs) e zero (suc j) p q = absurd (none_in bs j (rest_none (set_of bs) e) q)
alone (true ∷ bs) e (suc i) j p q = absurd (none_in bs i (rest_none (set_of bs) e) p)
alone (false ∷ bs) e zero j p q = absurd (false≢true p)
alone (false ∷ bs) e (suc i) zero p q = absurd (false≢true q)
alone (false ∷ bs) e (suc i) (suc j) p q = ap suc (alone bs (rest_alone (set_of bs) e) i j p q)
