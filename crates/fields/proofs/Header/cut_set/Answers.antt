-- `fields::Header::cut_set` meets its contract: where the last field of a part is there nothing is lacking; else the complement of a set is
-- what it lacks of all bits. Assumes nothing.
use native.Mathlib.Omega.{arith}
use mathlib.Core.Path.{sym, ◌∙◌}
use Rattle.fields.specs.Ipv4.{protocol}
use Rattle.fields.proofs.laws.CutSet.{flags_none, code_none, ports_long, ports_none, later_none}
use Rattle.fields.proofs.Header.cut_set.Goals as goal

pub returns-then-has : goal.returns-then-has
returns-then-has c = rw c.requires.1 (sym (flags_none _ _ (rw c.requires.1 at (sym c.has.ensures ∙ c.if-has.true))))

pub returns-then-has-2 : goal.returns-then-has-2
returns-then-has-2 c = rw c.requires.1 (sym (code_none _ _ (rw c.requires.1 at (sym c.has-2.ensures ∙ c.if-has-2.true))))

pub byte_at-requires : goal.byte_at-requires
byte_at-requires c = let long = ports_long _ _ (rw c.requires.1 at (sym c.has-3.ensures ∙ c.if-has-3.true)) in
    omega arith

pub returns-then-byte_at-ne-TCP : goal.returns-then-byte_at-ne-TCP
unfolding protocol
returns-then-byte_at-ne-TCP c = let other = rw c.byte_at.ensures at c.if-byte_at-ne-TCP.true in
    rw c.requires.1 (sym (ports_none _ _ (rw c.requires.1 at (sym c.has-3.ensures ∙ c.if-has-3.true)) other))

pub returns-then-not-may_begin : goal.returns-then-not-may_begin
returns-then-not-may_begin c = rw c.requires.1
    (sym
    (later_none _ _ (rw c.requires.1 at (sym c.has-4.ensures ∙ c.if-has-4.true))
    (sym c.may_begin.ensures ∙ c.if-not-may_begin.true)))

pub returns : goal.returns
returns c = rw c.possible_set.ensures
