use Rattle.std.proofs.Common.{arith}
use Rattle.std.proofs.lemmas.List.{length-take}
use Rattle.fields_cases.proofs.show_alone.Goals as goal

pub slice_bounds-frame-end : goal.slice_bounds-frame-end
slice_bounds-frame-end g c = omega (arith, length-take 48 c.frame_of-whole.result, c.frame_of-whole.type_inv)
