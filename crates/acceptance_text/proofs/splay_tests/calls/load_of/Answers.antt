use Rattle.std.proofs.Common.{◌+◌, arith}
use Rattle.acceptance_text.proofs.TreeLoads.{load-more, load-take, some_at}
use Rattle.acceptance_text.proofs.splay_tests.calls.load_of.Goals as goal

pub overflow_add-sum : goal.overflow_add-sum
overflow_add-sum g c =
    let s = some_at c.args.tree.now.items c.loop-at.at (omega arith) in
    omega (arith, c.loop-at.invariant, c.weight_at-sum.ensures s.0 s.1, load-more g.M.Measure.weight c.args.tree.now.items c.loop-at.at s.0 s.1, load-take g.M.Measure.weight c.args.tree.now.items (c.loop-at.at + 1), c.len-at-end.ensures.light)

pub loop-at-preserved : goal.loop-at-preserved
loop-at-preserved g c =
    let s = some_at c.args.tree.now.items c.loop-at.at (omega arith) in
    omega (arith, c.loop-at.invariant, c.weight_at-sum.ensures s.0 s.1, load-more g.M.Measure.weight c.args.tree.now.items c.loop-at.at s.0 s.1)
