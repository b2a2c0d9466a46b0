use Rattle.std.proofs.Common.{◌≡◌, take}
use Rattle.splay.specs.Items.{load}
use Rattle.acceptance_text.proofs.splay_tests.calls.load_of.Given as goal

abbrev pub invariant-loop-at : goal.invariant-loop-at
invariant-loop-at g l = l.sum ≡ load g.M.Measure.weight (take l.at l.tree.items)
