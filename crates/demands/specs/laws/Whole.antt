-- The answers of both calls together are what Whole says.
-- Assumes nothing.
use Rattle.std.specs.Prelude.{ℕ, ◌≤◌, ◌<◌, ◌^◌, ◌≡◌, List, length, Result, Ok, Err}
use Rattle.refusals.specs.declared.Refusal.{Refusal}
use Rattle.refusals.specs.declared.Refused.{Refused}
use Rattle.std.proofs.Common.{arith, ap₂, ◌∙◌}
use Rattle.std.proofs.Math.Path.{ap}
use Rattle.refusals.specs.laws.Above.{number_above}
use Rattle.fields.specs.Ethernet.{max_frame}
use Rattle.fields.specs.Bytes.{Bytes}
use Rattle.builder.specs.Outcome as O
use Rattle.matcher.specs.declared.Walk.{Walk}
use Rattle.matcher.specs.Walk as W
use Rattle.labels.specs.Labels.{Legal}
use Rattle.demands.specs.Settled.{walked}
use Rattle.demands.specs.laws.Settled.{exact, all_done, all_matches, open_so, sure_so, out_so, sure_kept, out_kept, none_left, asked_few}
use Rattle.demands.specs.Whole.{Told, Whole}

module _ (l t s f : List ℕ) (p a : ℕ) where
  abbrev answer : Result ℕ (Refused ℕ)
  answer = (O.outcome l t s).answer

  abbrev refused_in : Refused ℕ → Result ℕ (Refused ℕ) → Refused ℕ
  refused_in r (Ok n) = r
  refused_in r (Err q) = q

  -- No list that was built is refused.
  unbuilt_some : (r : Refused ℕ) → Err r ≡ answer → O.refusal_of answer ≡ 0 → ⊥
  unbuilt_some r e z = omega (arith, number_above r.refusal, ap O.refusal_of e)

  pub whole_refused : (r : Refused ℕ) → Err r ≡ answer → Whole l t s f p a (Err r.refusal)
  whole_refused r e =
      let some = unbuilt_some r e in
      record { unbuilt = λ q g. ap (λ (x : Result ℕ (Refused ℕ)). Err (refused_in r x).refusal) (e ∙ g); walks = λ z. absurd (some z); demands = λ z _. absurd (some z) }

  -- A walk over what was built; the frame's bytes and the port are bytes.
  module _ (n : ℕ) (t' : List ℕ) (x : Result Walk Refusal) (e : Ok n ≡ answer) (same : t' ≡ (O.outcome l t s).table)
      (w : x ≡ W.walk f p t' n a) (bytes : Bytes f) (port : p < 2 ^ 8) where
    follows : x ≡ walked l t s f p a
    follows = w ∙ ap₂ (λ (u : List ℕ) (m : ℕ). W.walk f p u m a) same (ap O.number_of e)

    built : 0 ≡ O.refusal_of answer
    built = ap O.refusal_of e

    legal : length f ≤ max_frame → Legal f p
    legal short = record { short = short; bytes = bytes; port = port }

    all_told : O.refusal_of answer ≡ 0 → Legal f p → Told l t s f p a (walked l t s f p a)
    all_told z h =
        record {
          settled = λ k. (all_done l t s z f p h a k, all_matches l t s z f p h a k);
          exact = exact l t s z f p h a;
          neither = open_so l t s z f p h a;
          sound_sure = sure_so l t s z f p h a;
          sound_out = out_so l t s z f p h a;
          stays = λ less i m. (sure_kept l t s z f p h less a i m, out_kept l t s z f p h less a i m);
          none_open = none_left l t s z f p h a;
          few = asked_few l t s z f p h a;
        }

    pub whole_built : Whole l t s f p a x
    whole_built =
        record {
          unbuilt = λ r g. absurd (omega (arith, number_above r.refusal, built ∙ ap O.refusal_of g));
          walks = λ _. follows;
          demands = λ z h. rw follows (all_told z (legal h));
        }
