use Rattle.std.proofs.Common.{◌≡◌, refl, sym, ◌∙◌, arith, length-set, take_all}
use Rattle.sets.specs.Sets.{tally}
use Rattle.lists.specs.Filters.{max_filters, filters_of}
use Rattle.lists.specs.inner.Columns.{rank_set_by}
use Rattle.lists.proofs.Columns.{ranks_agree, tally_turn}
use Rattle.lists.proofs.rank_sets.Goals as goal

pub loop-i-init : goal.loop-i-init
unfolding tally
loop-i-init c = (c.told-sets, refl)

pub loop-i-preserved : goal.loop-i-preserved
loop-i-preserved c = (
  length-set c.loop-i.sets c.loop-i.i c.rank_set.result ∙ c.loop-i.invariant.0,
  tally_turn (rank_set_by c.heads-n.new.ranks c.heads-n.result) c.loop-i.sets c.loop-i.i c.rank_set.result (omega arith) c.rank_set.ensures c.loop-i.invariant.1,
)

pub returns : goal.returns
returns c =
    let z : c.loop-i.i ≡ max_filters = omega arith in
    sym (take_all max_filters c.loop-i.sets (omega arith)) ∙ rw z at c.loop-i.invariant.1 ∙
    ranks_agree (filters_of c.args.list.now) c.heads-n.result c.heads-n.new.ranks c.heads-n.ensures
