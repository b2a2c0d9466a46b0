use Rattle.std.proofs.Common.{◌≡◌, sym, ap, ◌∙◌, arith}
use Rattle.splay.specs.Tree.{flat}
use Rattle.splay.specs.Sums.{count_in}
use Rattle.splay.specs.Nodes.{tally_at}
use Rattle.splay.proofs.Walk.{seeks_start, seeks_left, seeks_right, seeks_stop, seeks_unread, seeks_deep}
use Rattle.splay.proofs.seek.node_at.Goals as goal
use Rattle.splay.proofs.seek.node_at.Goals.{then-ahead-left, else-ahead-left+else-ahead-left-2}

pub loop-level-init : goal.loop-level-init
loop-level-init g c =
    λ t aside spare z e h.
    seeks_start g.M.Measure.unit g.M.Measure.add g.M.Measure.weight c.args.store.now 1 c.args.root c.args.at t aside spare z e (omega arith)

pub returns-in_default : goal.returns-in_default
returns-in_default g c =
    λ t aside spare z e h.
    absurd (seeks_unread g.M.Measure.unit g.M.Measure.add g.M.Measure.weight c.args.store.now c.loop-level.here c.loop-level.ahead c.loop-level._level c.args.at (flat t) aside spare (c.loop-level.invariant t aside spare z e h) (sym c.find.ensures ∙ c.in_default.is))

pub returns-then-ahead-left-2 : goal.returns-then-ahead-left-2
returns-then-ahead-left-2 g c =
    λ t aside spare z e h.
    seeks_stop g.M.Measure.unit g.M.Measure.add g.M.Measure.weight c.args.store.now c.loop-level.here c.loop-level.ahead c.loop-level._level c.args.at (flat t) aside spare c.in-Some.link (c.loop-level.invariant t aside spare z e h) (sym c.in-Some.ensures)
    (c.if-ahead-left-2.true ∙ c.count_of-left.ensures ∙ ap count_in c.tally.ensures)

pub loop-level-preserved : goal.loop-level-preserved
loop-level-preserved g c =
    let count : c.count_of-left.result ≡ count_in (tally_at c.args.store.now c.in-Some.link.left) = c.count_of-left.ensures ∙ ap count_in c.tally.ensures in
    elim c.if-ahead-left.branch [
      | then-ahead-left w ↦
          λ t aside spare z e h.
          rw (w.here-is, w.ahead-is)
          (seeks_left g.M.Measure.unit g.M.Measure.add g.M.Measure.weight c.args.store.now 1 c.loop-level.here c.loop-level.ahead c.loop-level._level c.args.at (flat t) aside spare c.in-Some.link (c.loop-level.invariant t aside spare z e h) (sym c.in-Some.ensures) (omega (arith, count, w.if-ahead-left.true)))
      | else-ahead-left+else-ahead-left-2 w ↦
          λ t aside spare z e h.
          rw (w.here-is, w.ahead-is, count)
          (seeks_right g.M.Measure.unit g.M.Measure.add g.M.Measure.weight c.args.store.now 1 c.loop-level.here c.loop-level.ahead c.loop-level._level c.args.at (flat t) aside spare c.in-Some.link (c.loop-level.invariant t aside spare z e h) (sym c.in-Some.ensures) (omega (arith, count, w.if-ahead-left.false, w.if-ahead-left-2.false)))
    ]

pub returns : goal.returns
returns g c =
    λ t aside spare z e h.
    absurd (seeks_deep g.M.Measure.unit g.M.Measure.add g.M.Measure.weight c.args.store.now c.loop-level.here c.loop-level.ahead c.loop-level._level c.args.at (flat t) aside spare (c.loop-level.invariant t aside spare z e h) (omega (arith, c.len-level-end.ensures, c.loop-level-test.false)))
