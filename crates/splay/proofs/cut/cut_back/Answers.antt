use Rattle.std.proofs.Common.{arith, ap}
use Rattle.splay.specs.Items.{load}
use Rattle.splay.proofs.CutLemmas.{same_load, undone_back}
use Rattle.splay.proofs.cut.cut_back.Goals as goal

pub pour_front-requires-clause-light : goal.pour_front-requires-clause-light
pour_front-requires-clause-light g c =
    omega (arith, c.len.ensures.light, ap (load g.M.Measure.weight) c.new-right.ensures.items, same_load g.M.Measure.weight c.pour_back-moved.new.left.items c.pour_back-moved.new.right.items c.args.tree.items c.new-right.result.items c.pour_back-moved.ensures.joined)

pub returns-clause-err : goal.returns-clause-err
returns-clause-err g c =
    let back = c.pour_front.ensures.spared (omega (arith, c.pour_back-moved.ensures.left_spare)) in
    let items = undone_back c.args.tree.items c.new-right.result.items c.pour_back-moved.new.left.items c.pour_back-moved.new.right.items c.pour_front.new.left.items c.pour_front.new.right.items c.pour_back-moved.result c.pour_front.result c.pour_back-moved.ensures.joined c.pour_back-moved.ensures.moved c.pour_front.ensures.joined c.pour_front.ensures.moved back in
    (items.0, omega (arith, back, c.pour_back-moved.ensures.left_spare, c.pour_front.ensures.left_spare))
