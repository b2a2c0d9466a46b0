use Rattle.splay.proofs.LiftCalls.{right_fits_node, lifts_right_by}
use Rattle.splay.proofs.rotate.lift_right.Goals as goal

pub tally_between-below-requires-clause-light : goal.tally_between-below-requires-clause-light
tally_between-below-requires-clause-light g c =
    rw (c.tally-beside.ensures, c.tally-moved.ensures)
    (right_fits_node g.M.Measure.unit g.M.Measure.add g.M.Measure.weight g.met.M.Measure.associative g.met.M.Measure.unit_left g.met.M.Measure.unit_right g.met.M.Measure.lighter c.args.store.now c.args.x c.args.low c.args.high c.requires.node c.requires.low c.requires.high c.requires.side).light

pub tally_between-below-requires-clause-few : goal.tally_between-below-requires-clause-few
tally_between-below-requires-clause-few g c =
    rw (c.tally-beside.ensures, c.tally-moved.ensures)
    (right_fits_node g.M.Measure.unit g.M.Measure.add g.M.Measure.weight g.met.M.Measure.associative g.met.M.Measure.unit_left g.met.M.Measure.unit_right g.met.M.Measure.lighter c.args.store.now c.args.x c.args.low c.args.high c.requires.node c.requires.low c.requires.high c.requires.side).few

pub returns : goal.returns
returns g c =
    lifts_right_by g.M.Measure.unit g.M.Measure.add g.M.Measure.weight g.met.M.Measure.associative g.met.M.Measure.unit_left g.met.M.Measure.unit_right g.met.M.Measure.lighter
    c.args.store.now c.set_parent.new.self c.put.new.self c.put-2.new.self c.set_child.new.self c.args.x c.args.low c.args.high c.tally-moved.result c.tally-beside.result c.tally_between-below.result
    c.requires.low c.requires.high c.tally-moved.ensures c.tally-beside.ensures c.tally_between-below.ensures c.set_parent.ensures c.put.ensures c.put-2.ensures c.set_child.ensures
