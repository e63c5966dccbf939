-- How tight the promises are (document 01, the section of that name): two outcomes that one promise allows are equal.
use Rattle.std.specs.Prelude.{ℕ, ◌≡◌, refl, List, Result, Ok, Err}
use Rattle.std.proofs.Common.{sym, ap, ◌∙◌}
use Rattle.refusals.specs.declared.Refusal.{Refusal}
use Rattle.refusals.specs.declared.Refused.{Refused}
use Rattle.fields.specs.Header.{HeaderOf}
use Rattle.fields.specs.declared.Header.{Header}
use Rattle.builder.specs.Outcome as O
use Rattle.builder.specs.Tight.{answered_one}
use Rattle.matcher.specs.declared.Walk.{Walk}
use Rattle.matcher.specs.Walk as W
use Rattle.gateway.specs.Gateway as G
use Rattle.captures.specs.declared.Pause.{Pause}
use Rattle.captures.specs.Parts as P
use Rattle.demands.specs.Whole.{Whole, Rooms}

-- An answer, or lent memory afterwards, that equals a definition: `check`, `rank_sets`, `scan`, `light`, `read_field`, `residue_of`, the gateway's `clear`, a replay's `begin` and `finish` and all whose promise is one equation.
pub equation_tight : {A : Type 0} (d x y : A) → x ≡ d → y ≡ d → x ≡ y
equation_tight d x y u v = u ∙ sym v

-- The answer, and each word of the lent memory afterwards.
pub build_tight :
    (l t s : List ℕ) (a b : Result ℕ (Refused ℕ)) (ta tb sa sb : List ℕ) → O.Answered (O.outcome l t s) a ta sa → O.Answered (O.outcome l t s) b tb sb →
    (a ≡ b) × (ta ≡ tb) × (sa ≡ sb)
build_tight l t s = answered_one (O.outcome l t s)

-- Reading a header: the set, and each of its words.
pub header_tight : (f : List ℕ) (p : ℕ) (old x y : Header) → HeaderOf f p old x → HeaderOf f p old y → (x.present ≡ y.present) × (x.values ≡ y.values)
header_tight f p old x y u v = (u.set ∙ sym v.set, u.words ∙ sym v.words)

-- Classifying writes nothing, and its answer is determined.
pub classify_tight : (f : List ℕ) (p : ℕ) (t : List ℕ) (m a : ℕ) (x y : Result Walk Refusal) → x ≡ W.walk f p t m a → y ≡ W.walk f p t m a → x ≡ y
classify_tight f p t m a x y u v = u ∙ sym v

-- Judging: the answer, and every tally afterwards.
pub judge_tight : (j : G.Judgement) (a b : Result ℕ Refusal) (ta tb : List ℕ) → G.judgement_of a ta ≡ j → G.judgement_of b tb ≡ j → (a ≡ b) × (ta ≡ tb)
judge_tight j a b ta tb x y = (ap (λ (k : G.Judgement). k.answer) (x ∙ sym y), ap (λ (k : G.Judgement). k.tallies) (x ∙ sym y))

-- Going on with a capture: where it stands, what waits, each byte of the buffer and every tally afterwards.
pub go_on_tight :
    (p : P.Paused) (before : List ℕ) (a b : Pause) (sa sb ta tb : List ℕ) → P.WentOn p before a sa ta → P.WentOn p before b sb tb →
    (a.stand ≡ b.stand) × (a.held ≡ b.held) × (sa ≡ sb) × (ta ≡ tb)
go_on_tight p before a b sa sb ta tb x y =
    (x.stand ∙ sym y.stand, x.held ∙ sym y.held, x.buffer ∙ sym y.buffer, x.tallies ∙ sym y.tallies)

-- Building and classifying as one.
pub build_and_classify_tight :
    (l t s f : List ℕ) (p a : ℕ) (x y : Result Walk Refusal) (tx ty sx sy : List ℕ) → Whole l t s f p a x → Rooms (O.outcome l t s) tx sx → Whole l t s f p a y →
    Rooms (O.outcome l t s) ty sy → (x ≡ y) × (tx ≡ ty) × (sx ≡ sy)
build_and_classify_tight l t s f p a x y tx ty sx sy wx rx wy ry =
    (same (O.outcome l t s).answer refl, rx.table ∙ sym ry.table, rx.scratch ∙ sym ry.scratch)
  where
    same : (b : Result ℕ (Refused ℕ)) → (O.outcome l t s).answer ≡ b → x ≡ y
    same (Ok n) e = let built = ap O.refusal_of e in wx.walks built ∙ sym (wy.walks built)
    same (Err r) e = wx.unbuilt r e ∙ sym (wy.unbuilt r e)
