use Rattle.splay.proofs.SplayLemmas.{read_sum, read_no_sum}
use Rattle.splay.proofs.reads.sum.Goals as goal

pub returns-in-Some : goal.returns-in-Some
returns-in-Some g c =
    read_sum g.M.Measure.unit g.M.Measure.add g.M.Measure.weight c.args.store.now c.args.root c.args.at c.sum_before.result c.in-Some.sum c.sum_before.ensures c.in-Some.is

pub returns : goal.returns
returns g c =
    read_no_sum g.M.Measure.unit g.M.Measure.add g.M.Measure.weight c.args.store.now c.args.root c.args.at c.sum_before.result c.unit.result c.sum_before.ensures c.in-None.is c.unit.ensures
