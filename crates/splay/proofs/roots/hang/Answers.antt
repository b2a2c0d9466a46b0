use Rattle.std.proofs.Common.{sym}
use Rattle.splay.proofs.RootCalls.{hang_fits, hangs_by}
use Rattle.splay.proofs.roots.hang.Goals as goal

pub tally_between-tally-requires-clause-light : goal.tally_between-tally-requires-clause-light
tally_between-tally-requires-clause-light g c =
    rw (c.tally-before.ensures, c.tally-after.ensures) (hang_fits g.M.Measure.unit g.M.Measure.add g.M.Measure.weight g.met.M.Measure.associative g.met.M.Measure.unit_left g.met.M.Measure.unit_right g.met.M.Measure.lighter c.args.store.now c.args.y c.args.right c.in-Some.link c.requires (sym c.in-Some.ensures)).light

pub tally_between-tally-requires-clause-few : goal.tally_between-tally-requires-clause-few
tally_between-tally-requires-clause-few g c =
    rw (c.tally-before.ensures, c.tally-after.ensures) (hang_fits g.M.Measure.unit g.M.Measure.add g.M.Measure.weight g.met.M.Measure.associative g.met.M.Measure.unit_left g.met.M.Measure.unit_right g.met.M.Measure.lighter c.args.store.now c.args.y c.args.right c.in-Some.link c.requires (sym c.in-Some.ensures)).few

pub returns : goal.returns
returns g c =
    hangs_by g.M.Measure.unit g.M.Measure.add g.M.Measure.weight g.met.M.Measure.associative g.met.M.Measure.unit_left g.met.M.Measure.unit_right g.met.M.Measure.lighter c.args.store.now c.set_parent.new.self c.put.new.self c.args.y c.args.right c.in-Some.link c.tally-before.result c.tally-after.result c.tally_between-tally.result (sym c.in-Some.ensures) c.tally-before.ensures c.tally-after.ensures c.tally_between-tally.ensures c.set_parent.ensures c.put.ensures
