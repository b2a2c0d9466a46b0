use Rattle.splay.proofs.OrderLemmas.{first_some, first_none}
use Rattle.splay.proofs.iter.first.Goals as goal

pub returns-then-root-eq-NIL : goal.returns-then-root-eq-NIL
returns-then-root-eq-NIL g c = first_none g.M.Measure.unit g.M.Measure.add g.M.Measure.weight c.args.store.now c.args.root c.if-root-eq-NIL.true

pub returns : goal.returns
returns g c = first_some g.M.Measure.unit g.M.Measure.add g.M.Measure.weight c.args.store.now c.args.root c.first_below.result c.first_below.ensures c.if-root-eq-NIL.false
