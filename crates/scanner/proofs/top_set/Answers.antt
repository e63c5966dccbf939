use Rattle.std.proofs.Common.{rules, ◌∙◌}
use borrow.Author.Tests.{tests}
use Rattle.lists.specs.Filters.{filters_of}
use Rattle.scanner.proofs.Tops.{top_column}
use Rattle.scanner.proofs.top_set.Goals as goal

pub returns : goal.returns
returns c = c.set_where.ensures _ (λ i b l e. search (rules, tests)) ∙ top_column (filters_of c.args.list.now) c.heads-n.result c.heads-n.new.ranks c.args.held c.heads-n.ensures
