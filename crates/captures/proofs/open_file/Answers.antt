-- `captures::open_file` meets its contract: the header is there, or it waits. Assumes nothing.
use Rattle.captures.proofs.Goings.{went_start, went_open}
use Rattle.captures.proofs.open_file.Goals as goal

pub returns-then-s-lt-FILE_HEADER : goal.returns-then-s-lt-FILE_HEADER
returns-then-s-lt-FILE_HEADER c = λ fs ts. went_start fs ts _ c.if-s-lt-FILE_HEADER.true

pub returns : goal.returns
returns c = λ fs ts. went_open fs ts _ _ c.opened.ensures c.if-s-lt-FILE_HEADER.false
