use Rattle.std.proofs.Common.{sym}
use Rattle.splay.proofs.RootCalls.{crown_before_fits, crowns_before_by}
use Rattle.splay.proofs.roots.crown_before.Goals as goal

pub tally_between-right-requires-clause-light : goal.tally_between-right-requires-clause-light
tally_between-right-requires-clause-light g c =
    rw c.tally-after.ensures (crown_before_fits g.M.Measure.unit g.M.Measure.add g.M.Measure.weight g.met.M.Measure.associative g.met.M.Measure.unit_left g.met.M.Measure.unit_right g.met.M.Measure.lighter c.args.store.now c.args.x c.args.y c.in-Some.link c.in-Some-find.root c.requires (sym c.in-Some.ensures) (sym c.in-Some-find.ensures)).lower.light

pub tally_between-right-requires-clause-few : goal.tally_between-right-requires-clause-few
tally_between-right-requires-clause-few g c =
    rw c.tally-after.ensures (crown_before_fits g.M.Measure.unit g.M.Measure.add g.M.Measure.weight g.met.M.Measure.associative g.met.M.Measure.unit_left g.met.M.Measure.unit_right g.met.M.Measure.lighter c.args.store.now c.args.x c.args.y c.in-Some.link c.in-Some-find.root c.requires (sym c.in-Some.ensures) (sym c.in-Some-find.ensures)).lower.few

pub tally_between-tally-requires-clause-light : goal.tally_between-tally-requires-clause-light
tally_between-tally-requires-clause-light g c =
    rw (c.tally_between-right.ensures, c.tally-before.ensures, c.tally-after.ensures) (crown_before_fits g.M.Measure.unit g.M.Measure.add g.M.Measure.weight g.met.M.Measure.associative g.met.M.Measure.unit_left g.met.M.Measure.unit_right g.met.M.Measure.lighter c.args.store.now c.args.x c.args.y c.in-Some.link c.in-Some-find.root c.requires (sym c.in-Some.ensures) (sym c.in-Some-find.ensures)).upper.light

pub tally_between-tally-requires-clause-few : goal.tally_between-tally-requires-clause-few
tally_between-tally-requires-clause-few g c =
    rw (c.tally_between-right.ensures, c.tally-before.ensures, c.tally-after.ensures) (crown_before_fits g.M.Measure.unit g.M.Measure.add g.M.Measure.weight g.met.M.Measure.associative g.met.M.Measure.unit_left g.met.M.Measure.unit_right g.met.M.Measure.lighter c.args.store.now c.args.x c.args.y c.in-Some.link c.in-Some-find.root c.requires (sym c.in-Some.ensures) (sym c.in-Some-find.ensures)).upper.few

pub returns : goal.returns
returns g c =
    crowns_before_by g.M.Measure.unit g.M.Measure.add g.M.Measure.weight g.met.M.Measure.associative g.met.M.Measure.unit_left g.met.M.Measure.unit_right g.met.M.Measure.lighter c.args.store.now c.set_parent.new.self c.put.new.self c.put-2.new.self c.args.x c.args.y c.in-Some.link c.in-Some-find.root c.tally-before.result c.tally-after.result c.tally_between-right.result c.tally_between-tally.result (sym c.in-Some.ensures) (sym c.in-Some-find.ensures) c.tally-before.ensures c.tally-after.ensures c.tally_between-right.ensures c.tally_between-tally.ensures c.set_parent.ensures c.put.ensures c.put-2.ensures
