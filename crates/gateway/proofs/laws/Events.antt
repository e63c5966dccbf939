-- Over any run the tallies add up to the frames judged since the last clearing.
--   judged_adds    a judgement makes the sum greater by one where it is a verdict, and leaves it where it is a refusal
--   runs_add_up    so from a clearing on the sum is the count
use Rattle.std.specs.Prelude.{ℕ, zero, suc, ◌+◌, ◌<◌, ◌≡◌, refl, not, List, [], ◌∷◌, eqb, length, get_or, set, replicate, Ok, Err}
use Rattle.std.proofs.Common.{arith, ap, ◌∙◌, eqb-true}
use Rattle.std.proofs.lemmas.Bool.{not-false}
use Rattle.residue.specs.laws.Choice.{by_cond}
use Rattle.refusals.specs.declared.Refusal.{Refusal}
use Rattle.refusals.specs.declared.Refusal.TheVariants.{FullTally, Verdicts, Tallies}
use Rattle.matcher.specs.declared.Walk.TheVariants.{Done, Stopped}
use Rattle.matcher.specs.Walk.{Answer, walk}
use Rattle.gateway.specs.Gateway.{tally_count, full_tally, allowance, lowest_of, verdicts_fit, Judgement, refused, counted_at, judged_by, judged}
use Rattle.gateway.specs.Events.{sum_of, Event, frame, clearing, Book, verdicts_in, booked, opened, book_after, book_over}
use Rattle.gateway.proofs.laws.Lowest.{lowest_below}

sum_more : (ts : List ℕ) (i : ℕ) → i < length ts → sum_of (set ts i (get_or ts i 0 + 1)) ≡ sum_of ts + 1
unfolding sum_of
sum_more [] i l = absurd (omega arith)
sum_more (t ∷ ts) zero l = omega arith
sum_more (t ∷ ts) (suc i) l = omega (arith, sum_more ts i (omega arith))

sum_zeros : (n : ℕ) → sum_of (replicate n 0) ≡ 0
unfolding sum_of
sum_zeros zero = refl
sum_zeros (suc n) = omega (arith, sum_zeros n)

-- What a judgement adds to the tallies' sum.
abbrev Adds : List ℕ → Judgement → Type 0
Adds ts j = sum_of j.tallies ≡ sum_of ts + verdicts_in j.answer

refused_adds : (r : Refusal) (ts : List ℕ) → Adds ts (refused r ts)
unfolding verdicts_in
refused_adds r ts = omega arith

counted_adds : (i : ℕ) (vs : List ℕ) (d : ℕ) (ts : List ℕ) → i < length ts → Adds ts (counted_at i vs d ts)
unfolding counted_at verdicts_in
counted_adds i vs d ts l =
    by_cond (Adds ts) (eqb (get_or ts i 0) full_tally) (λ _. refused_adds FullTally ts) (λ _. sum_more ts i l)

answer_adds : (a : Answer) (vs : List ℕ) (d : ℕ) (ts : List ℕ) → length ts ≡ tally_count → Adds ts (judged_by a vs d ts)
unfolding judged_by
answer_adds (Ok (Done x)) vs d ts room = counted_adds (lowest_of x.sure) vs d ts (omega (arith, lowest_below x.sure))
answer_adds (Ok (Stopped x)) vs d ts room = refused_adds _ ts
answer_adds (Err r) vs d ts room = refused_adds r ts

judged_adds : (f : List ℕ) (p : ℕ) (t : List ℕ) (m : ℕ) (vs : List ℕ) (d : ℕ) (ts : List ℕ) → Adds ts (judged f p t m vs d ts)
unfolding judged
judged_adds f p t m vs d ts =
    by_cond (Adds ts) (not (eqb (length ts) tally_count)) (λ _. refused_adds Tallies ts)
    (λ room. by_cond (Adds ts) (not (verdicts_fit vs d)) (λ _. refused_adds Verdicts ts)
    (λ _. answer_adds (walk f p t m allowance) vs d ts (eqb-true (length ts) tally_count (not-false (eqb (length ts) tally_count) room))))

abbrev Balanced : Book → Type 0
Balanced b = sum_of b.tallies ≡ b.frames

opened_balanced : (ts : List ℕ) → Balanced (opened ts)
unfolding opened
opened_balanced ts = sum_zeros (length ts)

after_balanced : (e : Event) (b : Book) → Balanced b → Balanced (book_after e b)
unfolding book_after booked
after_balanced (frame f p t m vs d) b e =
    judged_adds f p t m vs d b.tallies ∙ ap (λ (n : ℕ). n + verdicts_in (judged f p t m vs d b.tallies).answer) e
after_balanced clearing b e = opened_balanced b.tallies

run_balanced : (es : List Event) (b : Book) → Balanced b → Balanced (book_over es b)
unfolding book_over
run_balanced [] b e = e
run_balanced (e ∷ es) b h = run_balanced es (book_after e b) (after_balanced e b h)

pub runs_add_up : (es : List Event) (ts : List ℕ) → sum_of (book_over es (opened ts)).tallies ≡ (book_over es (opened ts)).frames
runs_add_up es ts = run_balanced es (opened ts) (opened_balanced ts)
