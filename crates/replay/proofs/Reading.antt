-- Reading a part and going on with it, and what the parts come to.
--   ReadOn        a part was read behind the bytes held, and the replay went on with it
-- Assumes nothing.
use Rattle.std.specs.Prelude.{ℕ, ◌+◌, ◌≤◌, ◌≡◌, refl, List, [], ◌∷◌, ◌++◌, length, take, drop, replicate, Result, Ok, Err}
use Rattle.std.proofs.Common.{sym, ap, ◌∙◌, arith, length-append, length-take-le, take-append-drop, take-take, take_at}
use Rattle.std.proofs.lemmas.List.{length-replicate, take-replicate}
use Rattle.captures.specs.Replay.{numbered, replay_of, text_replayed}
use Rattle.captures.specs.Parts.{Paused, paused, went_on, WentOn, ending, begun_by, fed, finished, played_by, played, joined}
use Rattle.captures.specs.laws.Whole.{played_whole, ready_fit}
use Rattle.refusals.specs.declared.Refused.{Refused}
use Rattle.text.specs.Text.{words_of}
use Rattle.captures.specs.declared.Numbered.{Numbered}
use Rattle.captures.specs.declared.Stand.{Stand}
use Rattle.captures.specs.declared.Stand.TheVariants.{Start}
use Rattle.captures.specs.declared.Pause.{Pause}
use Rattle.captures.specs.declared.Ready.{Ready}
use Rattle.replay.specs.inner.Reads.{all_tallies}

pub record ReadOn (l : List ℕ) (st : Stand) (held ts : List ℕ) (st' : Stand) (held' : ℕ) (buffer ts' : List ℕ) : Type 0 where
  pub part : List ℕ
  pub fits : held' ≤ length buffer
  pub went : went_on l st ts (held ++ part) ≡ paused st' ts' (take held' buffer)

module _ (l : List ℕ) (st : Stand) (before filled ts : List ℕ) (held end : ℕ) (r : Pause) (after ts' : List ℕ) where
  abbrev p : Paused
  p = went_on l st ts (take end filled)

  pub read_so : held ≤ end → end ≤ length filled → take held filled ≡ take held before → WentOn p filled r after ts' → ReadOn l st (take held before) ts r.stand r.held after ts'
  read_so h k e w =
      let whole : take held before ++ drop held (take end filled) ≡ take end filled =
      ap (λ (s : List ℕ). s ++ drop held (take end filled)) (sym e ∙ sym (take-take held end filled h)) ∙ take-append-drop held (take end filled) in
      let long : length after ≡ length p.rest + length (drop (length p.rest) filled) = ap length w.buffer ∙ length-append p.rest (drop (length p.rest) filled) in
      let waits : take r.held after ≡ p.rest = ap (λ (s : List ℕ). take r.held s) w.buffer ∙ take_at p.rest (drop (length p.rest) filled) r.held (sym w.held) in
      record {
        part = drop held (take end filled);
        fits = omega (arith, long, w.held);
        went = ap (λ (s : List ℕ). went_on l st ts s) whole ∙ rw (w.stand, w.tallies, waits);
      }

-- One part more.
fed_more : (l : List ℕ) (q : Paused) (parts : List (List ℕ)) (s : List ℕ) →
    fed l q (parts ++ (s ∷ [])) ≡ went_on l (fed l q parts).stand (fed l q parts).counts ((fed l q parts).rest ++ s)
unfolding fed
fed_more l q [] s = refl
fed_more l q (x ∷ parts) s = fed_more l (went_on l q.stand q.counts (q.rest ++ x)) parts s

pub fed_on : (l : List ℕ) (q : Paused) (parts : List (List ℕ)) (st : Stand) (held ts : List ℕ) (st' : Stand) (held' : ℕ) (buffer ts' : List ℕ) →
    fed l q parts ≡ paused st ts held → (w : ReadOn l st held ts st' held' buffer ts') → fed l q (parts ++ (w.part ∷ [])) ≡ paused st' ts' (take held' buffer)
fed_on l q parts st held ts st' held' buffer ts' e w =
    fed_more l q parts w.part ∙ ap (λ (x : Paused). went_on l x.stand x.counts (x.rest ++ w.part)) e ∙ w.went

pub answer_so : (l : List ℕ) (q : Paused) (parts : List (List ℕ)) (st : Stand) (ts : List ℕ) (held : ℕ) (buffer : List ℕ) (answer : Result ℕ Numbered) →
    held ≤ length buffer → fed l q parts ≡ paused st ts (take held buffer) → answer ≡ ending st held → replay_of answer ts ≡ finished (fed l q parts)
unfolding finished
answer_so l q parts st ts held buffer answer h e f = rw (e, length-take-le held buffer h, f)

abbrev noughts : ℕ → List ℕ
noughts n = replicate n 0

-- The tallies stand at the front of the counts.
module _ (ts part : List ℕ) (n : ℕ) (h : n ≤ length ts) (e : length part ≡ length (take n ts)) where
  part_long : length part ≡ n
  part_long = e ∙ length-take-le n ts h

  pub front_fits : n ≤ length (part ++ drop n ts)
  front_fits = let long : length (part ++ drop n ts) ≡ length part + length (drop n ts) = length-append part (drop n ts) in omega (arith, long, part_long)

  front_is : take n (part ++ drop n ts) ≡ part
  front_is = take_at part (drop n ts) n part_long

-- What beginning with a text left: its words stand first.
module _ (x before after : List ℕ) (b : Result Ready (Refused ℕ)) (p : b ≡ begun_by x) (q : after ≡ words_of x ++ drop (length (words_of x)) before) where
  pub refused_text : (r : Refused ℕ) → b ≡ Err r → (file : List ℕ) × (replay_of (Err (numbered r)) [] ≡ text_replayed x file)
  unfolding played played_by replay_of joined
  refused_text r e =
      let so : played x [] ≡ replay_of (Err (numbered r)) [] = rw (sym p ∙ e) in
      ([], sym so ∙ played_whole x [])

  module _ (r : Ready) (e : b ≡ Ok r) where
    fit : (r.words ≡ length (words_of x)) × (r.tallies ≤ all_tallies)
    fit = ready_fit x r (sym p ∙ e)

    pub words_fit : r.words ≤ length after
    words_fit = let long : length after ≡ length (words_of x) + length (drop (length (words_of x)) before) = ap length q ∙ length-append (words_of x) (drop (length (words_of x)) before) in omega (arith, long, fit.0)

    pub tallies_fit : (ts : List ℕ) → ts ≡ noughts all_tallies → r.tallies ≤ length ts
    tallies_fit ts z = let long : length ts ≡ all_tallies = ap length z ∙ length-replicate {A = ℕ} all_tallies 0 in omega (arith, long, fit.1)

    words_first : take r.words after ≡ words_of x
    words_first = ap (λ (s : List ℕ). take r.words s) q ∙ take_at (words_of x) (drop (length (words_of x)) before) r.words (sym fit.0)

    ready_played : (parts : List (List ℕ)) → finished (fed (words_of x) (paused Start (noughts r.tallies) []) parts) ≡ played x parts
    unfolding played played_by
    ready_played parts = rw (sym p ∙ e)

    pub ready_text : (ts part : List ℕ) (answer : Result ℕ Numbered) → ts ≡ noughts all_tallies → length part ≡ length (take r.tallies ts) →
        (parts : List (List ℕ)) × (replay_of answer part ≡ finished (fed (take r.words after) (paused Start (take r.tallies ts) []) parts)) →
        (file : List ℕ) × (replay_of answer (take r.tallies (part ++ drop r.tallies ts)) ≡ text_replayed x file)
    ready_text ts part answer z long a =
        let zeros : take r.tallies ts ≡ noughts r.tallies = ap (λ (s : List ℕ). take r.tallies s) z ∙ take-replicate r.tallies all_tallies 0 fit.1 in
        let told : replay_of answer part ≡ played x a.0 = rw (words_first, zeros) at a.1 ∙ ready_played a.0 in
        (joined a.0, ap (λ (s : List ℕ). replay_of answer s) (front_is ts part r.tallies (tallies_fit ts z) long) ∙ told ∙ played_whole x a.0)
