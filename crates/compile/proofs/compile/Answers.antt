-- The records of the states that building answers lie within the table.
use Rattle.std.proofs.Common.{arith, sym, length-take-le}
use Rattle.compile.proofs.Fits.{states_fit}
use Rattle.compile.proofs.compile.Goals as goal

pub slice_bounds-table-end : goal.slice_bounds-table-end
slice_bounds-table-end g c = omega (arith, states_fit _ _ _ c.in-Ok.ensures.answer, c.build_text.auto.table)

pub slice_bounds-print_states-end : goal.slice_bounds-print_states-end
slice_bounds-print_states-end g c = sym (length-take-le _ _ (omega (arith, states_fit _ _ _ c.in-Ok.ensures.answer, c.build_text.auto.table)))
