use Rattle.std.proofs.Common.{sym, ◌∙◌}
use Rattle.splay.proofs.RootCalls.{takes_out_by, takes_out_never}
use Rattle.splay.proofs.roots.take_out.Goals as goal

pub returns-in-Some-empty : goal.returns-in-Some-empty
returns-in-Some-empty g c =
    takes_out_by g.M.Measure.unit g.M.Measure.add g.M.Measure.weight g.met.M.Measure.associative g.met.M.Measure.unit_left g.met.M.Measure.unit_right g.met.M.Measure.lighter c.args.store.now c.set_parent.new.self c.set_parent-in-Some.new.self c.empty.new.self c.args.x c.args.free c.in-Some.link c.in-Some-empty.value (sym c.in-Some.ensures) c.set_parent.ensures c.set_parent-in-Some.ensures c.empty.ensures.nodes (sym c.empty.ensures.value ∙ c.in-Some-empty.is)

pub returns-in-None-empty : goal.returns-in-None-empty
returns-in-None-empty g c =
    takes_out_never g.M.Measure.unit g.M.Measure.add g.M.Measure.weight g.met.M.Measure.associative g.met.M.Measure.unit_left g.met.M.Measure.unit_right g.met.M.Measure.lighter c.args.store.now c.set_parent.new.self c.set_parent-in-Some.new.self c.empty.new.self c.args.x c.args.free c.in-Some.link (sym c.in-Some.ensures) c.set_parent.ensures c.set_parent-in-Some.ensures (sym c.empty.ensures.value ∙ c.in-None-empty.is)
