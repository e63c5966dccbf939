use Rattle.std.proofs.Common.{refl, rules, ◌∙◌, ◌&&◌}
use Rattle.std.proofs.Math.Nat.{sub-zero}
use borrow.Author.Tests.{tests}
use Rattle.std.proofs.lemmas.Iterator.{YieldsList-from_range}
use Rattle.std.proofs.lemmas.Iterator.Search.{any_from_yields_List}
use Rattle.sets.specs.Sets.{member}
use Rattle.lists.specs.Columns.{above_by}
use Rattle.scanner.specs.inner.Standing.{beaten_by}
use Rattle.scanner.proofs.Scanning.{some_range}
use Rattle.scanner.proofs.beaten.Goals as goal

pub returns : goal.returns
unfolding beaten_by
returns c =
    any_from_yields_List (λ j. above_by c.args.ranks.now j c.args.i && member j c.args.held) _ _ _ c.any.ensures.ran (YieldsList-from_range 0 c.args.n c.args.n refl (sub-zero _)) (λ x b q k. search (rules, tests)) ∙
    some_range _ c.args.n
