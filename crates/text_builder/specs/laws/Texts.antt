-- What the definition of compiling a text comes to.
--   text_refused   a text that is not accepted is refused with 14, whatever else is wrong
--   text_built     an accepted text is compiled as the list of its words
--   text_exact     so 14 is answered exactly where the text is not accepted
--   text_tight     two outcomes that the promise allows are equal
use Rattle.std.specs.Prelude.{ℕ, ◌<◌, ◌≡◌, Bool, List, ltb, length, Ok, Err}
use Rattle.std.proofs.Common.{arith}
use Rattle.std.proofs.Math.Path.{refl, ap}
use Rattle.std.proofs.Math.Bool.{true, false}
use Rattle.refusals.specs.Numbers.{number_of, unplaced}
use Rattle.residue.specs.laws.Choice.{by_cond}
use Rattle.lists.specs.Filters.{filters_of}
use Rattle.lists.specs.Refusals.{Listed, listed}
use Rattle.lists.specs.laws.Faults.{Faulty, listed_faulty}
use Rattle.tables.specs.Tables.{slots_of}
use Rattle.machine.specs.Box.{states_of}
use Rattle.text.specs.Text as T
use Rattle.builder.specs.Outcome.{Built, refusal_of, Left, scratch_words, refused, no_room, placed, by_room, outcome_by, outcome, Answered}
use Rattle.builder.specs.Tight.{answered_one}
use Rattle.text_builder.specs.Outcome.{text_outcome}

-- The refusals of a build have smaller numbers.
abbrev Below : Left → Type 0
Below x = refusal_of x.answer < number_of T.text_refusal

below_by : (c : Listed) (l t s : List ℕ) → Faulty c → Below (outcome_by c l t s)
unfolding outcome_by refused by_room no_room placed number_of
below_by (Err r) l t s few = omega (arith, few.1)
below_by (Ok c) l t s few =
    by_cond Below (ltb (length s) (scratch_words t)) (λ _. omega arith)
    (λ _. by_cond Below (ltb (slots_of t) (length (states_of (filters_of l)))) (λ _. omega arith) (λ _. omega arith))

build_below : (l t s : List ℕ) → Below (outcome l t s)
unfolding outcome
build_below l t s = below_by (listed l) l t s (listed_faulty l)

module _ (x t s : List ℕ) where
  pub text_refused : T.readable x ≡ false → text_outcome x t s ≡ refused (unplaced T.text_refusal) t s
  unfolding text_outcome
  text_refused e = rw e

  pub text_built : T.readable x ≡ true → text_outcome x t s ≡ outcome (T.words_of x) t s
  unfolding text_outcome
  text_built e = rw e

  pub text_exact : (refusal_of (text_outcome x t s).answer ≡ number_of T.text_refusal → T.readable x ≡ false) × (T.readable x ≡ false → refusal_of (text_outcome x t s).answer ≡ number_of T.text_refusal)
  unfolding refused
  text_exact = (go (T.readable x) refl, λ e. ap (λ (l : Left). refusal_of l.answer) (text_refused e))
    where
      go : (b : Bool) → T.readable x ≡ b → refusal_of (text_outcome x t s).answer ≡ number_of T.text_refusal → b ≡ false
      go true p e = absurd (omega (arith, build_below (T.words_of x) t s, ap (λ (l : Left). refusal_of l.answer) (text_built p)))
      go false p e = refl

  pub text_tight : (a b : Built) (ta tb sa sb : List ℕ) → Answered (text_outcome x t s) a ta sa → Answered (text_outcome x t s) b tb sb → (a ≡ b) × (ta ≡ tb) × (sa ≡ sb)
  text_tight = answered_one (text_outcome x t s)
