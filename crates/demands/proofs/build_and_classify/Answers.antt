-- `demands::build_and_classify` meets its contract: what `build` ensures says which list was built and what its table holds, what `classify` ensures says that the frame is walked through that table.
-- Assumes nothing.
use native.Mathlib.Omega.{arith}
use mathlib.Core.Path.{sym, ◌∙◌}
use Rattle.demands.specs.laws.Whole.{whole_built}
use Rattle.demands.proofs.build_and_classify.Goals as goal

pub returns-in-Ok : goal.returns-in-Ok
returns-in-Ok c = record {
  whole = whole_built _ _ _ _ _ _ c.in-Ok.states _ c.classify.result
      (sym c.in-Ok.is ∙ c.build.ensures.answer)
      c.build.ensures.table
      c.classify.ensures
      c.type_inv.frame
      (omega arith);
  rooms = record { table = c.build.ensures.table; scratch = c.build.ensures.scratch };
}
