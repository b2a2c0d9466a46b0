use Rattle.std.proofs.Common.{ap, ◌∙◌}
use Rattle.splay.specs.Sums.{count_in}
use Rattle.splay.proofs.SplayLemmas.{read_item, read_none}
use Rattle.splay.proofs.reads.item.Goals as goal

pub returns-then-at-count_of : goal.returns-then-at-count_of
returns-then-at-count_of g c =
    read_item g.M.Measure.unit g.M.Measure.add g.M.Measure.weight c.args.store.now c.args.root c.args.at c.count_of.result c.node_at-x.result _ (c.count_of.ensures ∙ ap count_in c.tally.ensures) c.if-at-count_of.true c.node_at-x.ensures c.item.ensures

pub returns : goal.returns
returns g c =
    read_none g.M.Measure.unit g.M.Measure.add g.M.Measure.weight c.args.store.now c.args.root c.args.at c.count_of.result (c.count_of.ensures ∙ ap count_in c.tally.ensures) c.if-at-count_of.false
