use Rattle.std.proofs.Common.{arith}
use Rattle.splay.proofs.CutLemmas.{same_length, same_load}
use Rattle.splay.proofs.pour.pour_front.Goals as goal

pub move_front-requires-clause-few : goal.move_front-requires-clause-few
move_front-requires-clause-few g c =
    omega (arith, c.requires.few, same_length g.M.Measure.weight c.loop-moved.left.items c.loop-moved.right.items c.args.left.now.items c.args.right.now.items c.loop-moved.invariant.joined)

pub move_front-requires-clause-light : goal.move_front-requires-clause-light
move_front-requires-clause-light g c =
    omega (arith, c.requires.light, same_load g.M.Measure.weight c.loop-moved.left.items c.loop-moved.right.items c.args.left.now.items c.args.right.now.items c.loop-moved.invariant.joined)
