use Rattle.std.proofs.Common.{sym}
use Rattle.splay.proofs.RootCalls.{occupies_filled, occupies_pushed}
use Rattle.splay.proofs.roots.occupy.Goals as goal

pub returns-in-Some-clause-ok : goal.returns-in-Some-clause-ok
returns-in-Some-clause-ok g c =
    occupies_filled g.M.Measure.unit g.M.Measure.add g.M.Measure.weight g.met.M.Measure.associative g.met.M.Measure.unit_left g.met.M.Measure.unit_right g.met.M.Measure.lighter c.args.store.now c.fill.new.self c.args.free c.args.measure c.args.value c.in-Some.spare (sym c.in-Some.ensures) c.fill.ensures

pub returns-in-Ok-clause-ok : goal.returns-in-Ok-clause-ok
returns-in-Ok-clause-ok g c =
    occupies_pushed g.M.Measure.unit g.M.Measure.add g.M.Measure.weight g.met.M.Measure.associative g.met.M.Measure.unit_left g.met.M.Measure.unit_right g.met.M.Measure.lighter c.args.store.now c.push.new.self c.args.free c.len-at.result c.args.measure c.args.value (sym c.in-None.ensures) c.len-at.ensures c.in-Ok.ensures.ok
