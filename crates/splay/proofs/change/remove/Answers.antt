use Rattle.splay.proofs.ChangeCalls.{node_of_item, pair_left, removes_by, removes_never}
use Rattle.splay.proofs.change.remove.Goals as goal

pub splay-requires : goal.splay-requires
splay-requires g c =
    node_of_item g.M.Measure.unit g.M.Measure.add g.M.Measure.weight c.args.store.now c.args.root c.args.free c.args.at c.node_at-x.result c.requires c.node_at-x.ensures

pub glue-rest-requires : goal.glue-rest-requires
glue-rest-requires g c =
    pair_left g.M.Measure.unit g.M.Measure.add g.M.Measure.weight c.args.store.now c.splay.new.store c.take_out.new.store c.args.root c.args.free c.args.at c.node_at-x.result c.take_out.result c.in-Some.taken c.requires c.node_at-x.ensures c.splay.ensures c.take_out.ensures c.in-Some.is

pub returns-in-Some : goal.returns-in-Some
returns-in-Some g c =
    removes_by g.M.Measure.unit g.M.Measure.add g.M.Measure.weight c.args.store.now c.splay.new.store c.take_out.new.store c.glue-rest.new.store c.args.root c.args.free c.args.at c.node_at-x.result c.glue-rest.result c.take_out.result c.in-Some.taken c.node_at-x.ensures c.splay.ensures c.take_out.ensures c.in-Some.is c.glue-rest.ensures

pub returns-in-None : goal.returns-in-None
returns-in-None g c =
    removes_never g.M.Measure.unit g.M.Measure.add g.M.Measure.weight c.args.store.now c.splay.new.store c.take_out.new.store c.args.root c.args.free c.args.at c.node_at-x.result c.take_out.result c.node_at-x.ensures c.splay.ensures c.take_out.ensures c.in-None.is
