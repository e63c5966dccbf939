-- `slots::filter::cut_tests` meets its contract: what is kept, finished with what the rest leaves, is the whole.
-- Assumes nothing.
use Rattle.std.proofs.Common.{◌≡◌, ◌*◌, ◌<◌, drop, ◌∙◌, arith}
use Rattle.lists.specs.Filters.{test_words, max_tests}
use Rattle.lists.specs.Words.{words_of}
use Rattle.slots.specs.inner.Steps.{finish}
use Rattle.slots.proofs.Cutting.{words_at, ahead_start, ahead_out, ahead_stop, ahead_within, ahead_turn, ahead_none, ahead_end}
use Rattle.slots.proofs.filter.cut_tests.Goals as goal
use Rattle.slots.proofs.filter.cut_tests.Goals.{After-at-words}

-- Where the loop stands there is a test, and its words are read.
more : (c : After-at-words) → c.loop-test.test-index < max_tests
more c = omega (arith, c.as_chunks.ensures.front_len, c.told-src)

here : (c : After-at-words) → c.at-words.result ≡ words_of (drop (test_words * c.loop-test.test-index) c.args.src.now)
here c = c.at-words.ensures ∙ words_at c.args.src.now c.as_chunks.result.0.now c.loop-test.test-index c.told-src c.as_chunks.ensures.front (more c)

pub returns-then-src-eq-OUT : goal.returns-then-src-eq-OUT
unfolding finish
returns-then-src-eq-OUT c = record { words = ahead_out _ _ _ c.if-src-eq-OUT.true; within = tt }

pub loop-test-init : goal.loop-test-init
loop-test-init c = record { within = omega arith; whole = ahead_start _ _ _ _ c.if-src-eq-OUT.false }

pub returns-then-words-eq0 : goal.returns-then-words-eq0
unfolding finish
returns-then-words-eq0 c =
    let at = (goal.at.returns-then-words-eq0 c).After-at-words in
    record {
      words = ahead_stop _ _ _ c.loop-test.test-index _ _ c.at-words.result (c.loop-test.auto.dst ∙ c.requires) (more at) (here at) c.if-words-eq0.true ∙ c.loop-test.invariant.whole;
      within = omega (arith, more at);
    }

pub returns-in_err-end : goal.returns-in_err-end
unfolding finish
returns-in_err-end c =
    let at = (goal.at.returns-in_err-end c).After-at-words in
    let out = ahead_none _ _ _ _ _ _ _ (c.loop-test.auto.dst ∙ c.requires) (more at) (here at) c.if-words-eq0.false c.loop-test.invariant.within _ _ c.left_of.ensures c.in_err-end.ensures in
    rw c.from_residual.ensures (record { words = out ∙ c.loop-test.invariant.whole; within = tt })

pub loop-test-preserved : goal.loop-test-preserved
loop-test-preserved c =
    let at = (goal.at.loop-test-preserved c).After-at-words in
    let one = c.loop-test.auto.dst ∙ c.requires in
    record {
      within = ahead_within _ _ _ _ _ _ _ one (more at) (here at) c.if-words-eq0.false c.loop-test.invariant.within _ _ c.left_of.ensures _ c.in_ok-end.ensures;
      whole = ahead_turn _ _ _ _ _ _ _ one (more at) (here at) c.if-words-eq0.false c.loop-test.invariant.within _ _ c.left_of.ensures _ c.in_ok-end.ensures ∙ c.loop-test.invariant.whole;
    }

pub returns : goal.returns
unfolding finish
returns c =
    record {
      words = ahead_end _ _ _ c.loop-test.test-index _ _ (c.loop-test.auto.dst ∙ c.requires) (omega (arith, c.as_chunks.ensures.front_len, c.told-src)) ∙ c.loop-test.invariant.whole;
      within = omega (arith, c.as_chunks.ensures.front_len, c.told-src);
    }
