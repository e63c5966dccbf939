-- How tight the promise of a build is: two outcomes that it allows are equal.
--   answered_one      the answer, and each word of the lent memory afterwards
use Rattle.std.specs.Prelude.{ℕ, ◌≡◌, List}
use Rattle.std.proofs.Common.{sym, ◌∙◌}
use Rattle.builder.specs.Outcome.{Built, Left, Answered}

pub answered_one : (l : Left) (a b : Built) (ta tb sa sb : List ℕ) → Answered l a ta sa → Answered l b tb sb → (a ≡ b) × (ta ≡ tb) × (sa ≡ sb)
answered_one l a b ta tb sa sb x y =
    (x.answer ∙ sym y.answer, x.table ∙ sym y.table, x.scratch ∙ sym y.scratch)
