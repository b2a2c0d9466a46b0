use Rattle.std.proofs.Common.{arith}
use Rattle.splay.proofs.CutLemmas.{same_load, same_length, undone_back}
use Rattle.splay.proofs.join.join_right.Goals as goal

pub pour_front-requires-clause-some : goal.pour_front-requires-clause-some
pour_front-requires-clause-some g c =
    omega (arith, c.pour_back-moved.ensures.moved, same_length g.M.Measure.weight c.pour_back-moved.new.left.items c.pour_back-moved.new.right.items c.args.first.items c.args.second.items c.pour_back-moved.ensures.joined)

pub pour_front-requires-clause-few : goal.pour_front-requires-clause-few
pour_front-requires-clause-few g c =
    omega (arith, c.requires.few, same_length g.M.Measure.weight c.pour_back-moved.new.left.items c.pour_back-moved.new.right.items c.args.first.items c.args.second.items c.pour_back-moved.ensures.joined)

pub pour_front-requires-clause-light : goal.pour_front-requires-clause-light
pour_front-requires-clause-light g c =
    omega (arith, c.requires.light, same_load g.M.Measure.weight c.pour_back-moved.new.left.items c.pour_back-moved.new.right.items c.args.first.items c.args.second.items c.pour_back-moved.ensures.joined)

pub returns-clause-err : goal.returns-clause-err
returns-clause-err g c =
    undone_back c.args.first.items c.args.second.items c.pour_back-moved.new.left.items c.pour_back-moved.new.right.items c.pour_front.new.left.items c.pour_front.new.right.items c.pour_back-moved.result c.pour_front.result c.pour_back-moved.ensures.joined c.pour_back-moved.ensures.moved c.pour_front.ensures.joined c.pour_front.ensures.moved (c.pour_front.ensures.spared (omega (arith, c.pour_back-moved.ensures.left_spare)))
