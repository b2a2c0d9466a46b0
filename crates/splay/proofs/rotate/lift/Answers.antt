use Rattle.std.proofs.Common.{sym}
use Rattle.splay.proofs.LiftCalls.{not_right}
use Rattle.splay.proofs.rotate.lift.Goals as goal

pub returns-then-high-x-clause-right : goal.returns-then-high-x-clause-right
returns-then-high-x-clause-right g c =
    not_right g.M.Measure.unit g.M.Measure.add g.M.Measure.weight g.met.M.Measure.associative g.met.M.Measure.unit_left g.met.M.Measure.unit_right g.met.M.Measure.lighter c.args.store.now c.lift_left.new.store c.args.x c.in-Some.low c.in-Some-find.high (sym c.in-Some.ensures) (sym c.in-Some-find.ensures) c.if-high-x.true
