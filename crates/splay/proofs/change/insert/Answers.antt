use Rattle.std.proofs.Common.{◌∙◌, ap}
use Rattle.splay.specs.Sums.{count_in}
use Rattle.splay.proofs.ChangeCalls.{node_before, single_before, inserts_before, inserts_behind}
use Rattle.splay.proofs.change.insert.Goals as goal

pub splay-requires : goal.splay-requires
splay-requires g c =
    node_before g.M.Measure.unit g.M.Measure.add g.M.Measure.weight c.args.store.now c.args.x c.args.root c.args.at c.count_of-count.result c.node_at-y.result c.requires c.node_at-y.ensures (c.count_of-count.ensures ∙ ap count_in c.tally.ensures) c.if-at-count.true

pub crown_before-requires : goal.crown_before-requires
crown_before-requires g c =
    single_before g.M.Measure.unit g.M.Measure.add g.M.Measure.weight c.args.store.now c.splay.new.store c.args.x c.args.root c.args.at c.count_of-count.result c.node_at-y.result c.requires c.node_at-y.ensures (c.count_of-count.ensures ∙ ap count_in c.tally.ensures) c.if-at-count.true c.splay.ensures

pub returns-then-at-count : goal.returns-then-at-count
returns-then-at-count g c =
    inserts_before g.M.Measure.unit g.M.Measure.add g.M.Measure.weight c.args.store.now c.splay.new.store c.crown_before.new.store c.args.root c.args.x c.args.at c.count_of-count.result c.node_at-y.result (c.count_of-count.ensures ∙ ap count_in c.tally.ensures) c.if-at-count.true c.node_at-y.ensures c.splay.ensures c.crown_before.ensures

pub returns-else-at-count : goal.returns-else-at-count
returns-else-at-count g c =
    inserts_behind g.M.Measure.unit g.M.Measure.add g.M.Measure.weight c.args.store.now c.crown_behind.new.store c.args.root c.args.x c.args.at c.count_of-count.result (c.count_of-count.ensures ∙ ap count_in c.tally.ensures) c.if-at-count.false c.crown_behind.ensures
