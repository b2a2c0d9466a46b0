use Rattle.std.proofs.Common.{ap, ◌∙◌}
use Rattle.splay.specs.Sums.{count_in}
use Rattle.splay.proofs.RootCalls.{last_node, last_hangs, glues_by}
use Rattle.splay.proofs.roots.glue.Goals as goal

pub splay-requires : goal.splay-requires
splay-requires g c =
    last_node g.M.Measure.unit g.M.Measure.add g.M.Measure.weight g.met.M.Measure.associative g.met.M.Measure.unit_left g.met.M.Measure.unit_right g.met.M.Measure.lighter c.args.store.now c.args.left c.args.right c.count_of-count.result c.node_at-y.result c.requires (c.count_of-count.ensures ∙ ap count_in c.tally.ensures) c.if-count-eq0.false c.node_at-y.ensures

pub hang-requires : goal.hang-requires
hang-requires g c =
    last_hangs g.M.Measure.unit g.M.Measure.add g.M.Measure.weight g.met.M.Measure.associative g.met.M.Measure.unit_left g.met.M.Measure.unit_right g.met.M.Measure.lighter c.args.store.now c.splay.new.store c.args.left c.args.right c.count_of-count.result c.node_at-y.result c.requires (c.count_of-count.ensures ∙ ap count_in c.tally.ensures) c.if-count-eq0.false c.node_at-y.ensures c.splay.ensures

pub returns : goal.returns
returns g c =
    glues_by g.M.Measure.unit g.M.Measure.add g.M.Measure.weight g.met.M.Measure.associative g.met.M.Measure.unit_left g.met.M.Measure.unit_right g.met.M.Measure.lighter c.args.store.now c.splay.new.store c.hang.new.store c.args.left c.args.right c.count_of-count.result c.node_at-y.result (c.count_of-count.ensures ∙ ap count_in c.tally.ensures) c.if-count-eq0.false c.node_at-y.ensures c.splay.ensures c.hang.ensures
