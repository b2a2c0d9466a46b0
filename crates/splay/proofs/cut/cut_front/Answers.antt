use Rattle.std.proofs.Common.{arith, ap}
use Rattle.splay.specs.Items.{load}
use Rattle.splay.proofs.CutLemmas.{same_load, undone_front}
use Rattle.splay.proofs.cut.cut_front.Goals as goal

pub pour_back-requires-clause-light : goal.pour_back-requires-clause-light
pour_back-requires-clause-light g c =
    omega (arith, c.len-bounds.ensures.light, ap (load g.M.Measure.weight) c.new-left.ensures.items, same_load g.M.Measure.weight c.pour_front-moved.new.left.items c.pour_front-moved.new.right.items c.new-left.result.items c.args.tree.items c.pour_front-moved.ensures.joined)

pub returns-clause-err : goal.returns-clause-err
returns-clause-err g c =
    let back = c.pour_back.ensures.spared (omega (arith, c.pour_front-moved.ensures.right_spare)) in
    let items = undone_front c.new-left.result.items c.args.tree.items c.pour_front-moved.new.left.items c.pour_front-moved.new.right.items c.pour_back.new.left.items c.pour_back.new.right.items c.pour_front-moved.result c.pour_back.result c.pour_front-moved.ensures.joined c.pour_front-moved.ensures.moved c.pour_back.ensures.joined c.pour_back.ensures.moved back in
    (items.1, omega (arith, back, c.pour_front-moved.ensures.right_spare, c.pour_back.ensures.right_spare))
