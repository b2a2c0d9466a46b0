use Rattle.std.proofs.Common.{arith}
use Rattle.splay.proofs.CutLemmas.{same_load, same_length, undone_front}
use Rattle.splay.proofs.join.join_left.Goals as goal

pub pour_back-requires-clause-some : goal.pour_back-requires-clause-some
pour_back-requires-clause-some g c =
    omega (arith, c.pour_front-moved.ensures.moved, same_length g.M.Measure.weight c.pour_front-moved.new.left.items c.pour_front-moved.new.right.items c.args.first.items c.args.second.items c.pour_front-moved.ensures.joined)

pub pour_back-requires-clause-few : goal.pour_back-requires-clause-few
pour_back-requires-clause-few g c =
    omega (arith, c.requires.few, same_length g.M.Measure.weight c.pour_front-moved.new.left.items c.pour_front-moved.new.right.items c.args.first.items c.args.second.items c.pour_front-moved.ensures.joined)

pub pour_back-requires-clause-light : goal.pour_back-requires-clause-light
pour_back-requires-clause-light g c =
    omega (arith, c.requires.light, same_load g.M.Measure.weight c.pour_front-moved.new.left.items c.pour_front-moved.new.right.items c.args.first.items c.args.second.items c.pour_front-moved.ensures.joined)

pub returns-clause-err : goal.returns-clause-err
returns-clause-err g c =
    undone_front c.args.first.items c.args.second.items c.pour_front-moved.new.left.items c.pour_front-moved.new.right.items c.pour_back.new.left.items c.pour_back.new.right.items c.pour_front-moved.result c.pour_back.result c.pour_front-moved.ensures.joined c.pour_front-moved.ensures.moved c.pour_back.ensures.joined c.pour_back.ensures.moved (c.pour_back.ensures.spared (omega (arith, c.pour_front-moved.ensures.right_spare)))
