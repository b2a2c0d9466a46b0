use Rattle.std.proofs.Common.{sym}
use Rattle.splay.proofs.RootCalls.{crown_behind_fits, crowns_behind_by}
use Rattle.splay.proofs.roots.crown_behind.Goals as goal

pub tally_between-tally-requires-clause-light : goal.tally_between-tally-requires-clause-light
tally_between-tally-requires-clause-light g c =
    rw c.tally-before.ensures (crown_behind_fits g.M.Measure.unit g.M.Measure.add g.M.Measure.weight g.met.M.Measure.associative g.met.M.Measure.unit_left g.met.M.Measure.unit_right g.met.M.Measure.lighter c.args.store.now c.args.x c.args.left c.in-Some.link c.requires (sym c.in-Some.ensures)).light

pub tally_between-tally-requires-clause-few : goal.tally_between-tally-requires-clause-few
tally_between-tally-requires-clause-few g c =
    rw c.tally-before.ensures (crown_behind_fits g.M.Measure.unit g.M.Measure.add g.M.Measure.weight g.met.M.Measure.associative g.met.M.Measure.unit_left g.met.M.Measure.unit_right g.met.M.Measure.lighter c.args.store.now c.args.x c.args.left c.in-Some.link c.requires (sym c.in-Some.ensures)).few

pub returns : goal.returns
returns g c =
    crowns_behind_by g.M.Measure.unit g.M.Measure.add g.M.Measure.weight g.met.M.Measure.associative g.met.M.Measure.unit_left g.met.M.Measure.unit_right g.met.M.Measure.lighter c.args.store.now c.set_parent.new.self c.put.new.self c.args.x c.args.left c.in-Some.link c.tally-before.result c.tally_between-tally.result (sym c.in-Some.ensures) c.tally-before.ensures c.tally_between-tally.ensures c.set_parent.ensures c.put.ensures
