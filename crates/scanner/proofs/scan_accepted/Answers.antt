-- A header that was read once reads every field as the frame has it, and of the filters that hold by it the topmost are the match set.
use Rattle.std.proofs.Common.{◌≡◌, sym, ap, ◌∙◌, length}
use Rattle.fields.specs.declared.Header.{Header}
use Rattle.fields.specs.Fields.{field}
use Rattle.fields.specs.Header.{reading_at}
use Rattle.fields.proofs.laws.Header.{read_once}
use Rattle.scanner.proofs.Tops.{top_held, lone_held}
use Rattle.scanner.proofs.scan_accepted.Goals as goal
use Rattle.scanner.proofs.scan_accepted.Goals.{After-read}

frame_read : (c : After-read) → reading_at c.read.new.self.present c.read.new.self.values ≡ field c.args.frame.now c.args.port
frame_read c = read_once (ap (λ (h : Header). length h.values) c.new-header.ensures) c.read.ensures

pub returns-then-lone : goal.returns-then-lone
returns-then-lone c = lone_held _ _ _ _ (frame_read (goal.at.returns-then-lone c).After-read) c.fires_set-held.ensures (sym c.lone.ensures ∙ c.if-lone.true)

pub returns : goal.returns
returns c = c.top_set.ensures ∙ top_held _ _ _ _ (frame_read (goal.at.returns c).After-read) c.fires_set-held.ensures
