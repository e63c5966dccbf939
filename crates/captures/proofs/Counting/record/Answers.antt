-- `captures::Counting::record` meets its contract, by the two lengths and the bytes that are there. Assumes nothing.
use Rattle.std.proofs.Common.{ℕ, ap, ◌∙◌}
use Rattle.lists.specs.laws.Accepted.{accepted_count}
use Rattle.captures.specs.Replay.{counted}
use Rattle.captures.specs.inner.Steps.{gone}
use Rattle.captures.proofs.Goings.{went_short, went_long, went_frame}
use Rattle.captures.proofs.Counting.record.Goals as goal

pub returns-then-is_short-clause-went : goal.returns-then-is_short-clause-went
returns-then-is_short-clause-went c =
    went_short _ _ c.requires _ _ _ _ c.word_at-captured.ensures c.word_at-original.ensures c.if-s-lt-RECORD_HEADER.false _
    (accepted_count _ _ _ c.args.self.now.accepted).0 _ _ c.pass.ensures.gone c.if-is_short.true c.pass.ensures.counts

pub returns-then-is_long-clause-went : goal.returns-then-is_long-clause-went
returns-then-is_long-clause-went c =
    went_long _ _ c.requires _ _ _ _ c.word_at-captured.ensures c.word_at-original.ensures c.if-s-lt-RECORD_HEADER.false _
    (accepted_count _ _ _ c.args.self.now.accepted).0 _ _ c.pass-then-is_long.ensures.gone c.if-is_short.false c.if-is_long.true c.pass-then-is_long.ensures.counts

pub scan_accepted-set-requires : goal.scan_accepted-set-requires
scan_accepted-set-requires c = (c.args.self.now.checked.tests, rw c.filters.ensures.value c.args.self.now.accepted)

pub returns-clause-went : goal.returns-clause-went
returns-clause-went c =
    went_frame _ _ c.requires _ _ _ _ c.word_at-captured.ensures c.word_at-original.ensures c.if-s-lt-RECORD_HEADER.false _
    (accepted_count _ _ _ c.args.self.now.accepted).0 _ _ (ap (gone _) c.behind.ensures) c.if-is_short.false c.if-is_long.false c.if-s-end.false
    (c.count_frame.ensures.counts ∙ ap (λ (x : ℕ). counted c.args.self.now.checked.filters x c.args.self.now.counts.now) c.scan_accepted-set.ensures)
