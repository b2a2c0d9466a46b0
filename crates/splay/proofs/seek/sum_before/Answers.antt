use Rattle.std.proofs.Common.{◌≡◌, sym, ap, ◌∙◌, arith}
use Rattle.splay.specs.Tree.{flat}
use Rattle.splay.specs.Sums.{count_in}
use Rattle.splay.specs.Nodes.{tally_at}
use Rattle.splay.proofs.WalkSums.{sum_start, sum_light, sum_left, sum_right, sum_unread, sum_deep}
use Rattle.splay.proofs.seek.sum_before.Goals as goal
use Rattle.splay.proofs.seek.sum_before.Goals.{then-ahead-count, else-ahead-count}

pub loop-level-init : goal.loop-level-init
loop-level-init g c =
    λ t aside spare z e h.
    sum_start g.M.Measure.unit g.M.Measure.add g.M.Measure.weight g.met.M.Measure.associative g.met.M.Measure.unit_left g.met.M.Measure.unit_right g.met.M.Measure.lighter c.args.store.now c.args.root c.args.at t aside spare z e h

pub behind-requires : goal.behind-requires
behind-requires g c =
    let i = c.requires.0 in
    rw c.tally-left.ensures
    (sum_light g.M.Measure.unit g.M.Measure.add g.M.Measure.weight g.met.M.Measure.associative g.met.M.Measure.unit_left g.met.M.Measure.unit_right g.met.M.Measure.lighter c.args.store.now c.loop-level.here c.loop-level.ahead c.loop-level._level c.args.at c.loop-level.sum (flat i.tree) i.aside i.spare c.in-Some.link (c.loop-level.invariant i.tree i.aside i.spare i.zipped i.root_is c.requires.1) (sym c.in-Some.ensures)).part

pub with-requires : goal.with-requires
with-requires g c =
    let i = c.requires.0 in
    rw (c.behind.ensures, c.tally-left.ensures)
    (sum_light g.M.Measure.unit g.M.Measure.add g.M.Measure.weight g.met.M.Measure.associative g.met.M.Measure.unit_left g.met.M.Measure.unit_right g.met.M.Measure.lighter c.args.store.now c.loop-level.here c.loop-level.ahead c.loop-level._level c.args.at c.loop-level.sum (flat i.tree) i.aside i.spare c.in-Some.link (c.loop-level.invariant i.tree i.aside i.spare i.zipped i.root_is c.requires.1) (sym c.in-Some.ensures)).item

pub returns-in_default : goal.returns-in_default
returns-in_default g c =
    λ t aside spare z e h.
    sum_unread g.M.Measure.unit g.M.Measure.add g.M.Measure.weight g.met.M.Measure.associative g.met.M.Measure.unit_left g.met.M.Measure.unit_right g.met.M.Measure.lighter c.args.store.now c.loop-level.here c.loop-level.ahead c.loop-level._level c.args.at c.loop-level.sum (flat t) aside spare (c.loop-level.invariant t aside spare z e h) (sym c.find.ensures ∙ c.in_default.is)

pub loop-level-preserved : goal.loop-level-preserved
loop-level-preserved g c =
    let count : c.count_of-count.result ≡ count_in (tally_at c.args.store.now c.in-Some.link.left) = c.count_of-count.ensures ∙ ap count_in c.tally-left.ensures in
    elim c.if-ahead-count.branch [
      | then-ahead-count w ↦
          λ t aside spare z e h.
          rw (w.here-is, w.ahead-is, w.sum-is)
          (sum_left g.M.Measure.unit g.M.Measure.add g.M.Measure.weight g.met.M.Measure.associative g.met.M.Measure.unit_left g.met.M.Measure.unit_right g.met.M.Measure.lighter c.args.store.now c.loop-level.here c.loop-level.ahead c.loop-level._level c.args.at c.loop-level.sum (flat t) aside spare c.in-Some.link (c.loop-level.invariant t aside spare z e h) (sym c.in-Some.ensures) (omega (arith, count, w.if-ahead-count.true)))
      | else-ahead-count w ↦
          λ t aside spare z e h.
          rw (w.here-is, w.ahead-is, w.sum-is, w.with.ensures, w.behind.ensures, c.tally-left.ensures, count)
          (sum_right g.M.Measure.unit g.M.Measure.add g.M.Measure.weight g.met.M.Measure.associative g.met.M.Measure.unit_left g.met.M.Measure.unit_right g.met.M.Measure.lighter c.args.store.now c.loop-level.here c.loop-level.ahead c.loop-level._level c.args.at c.loop-level.sum (flat t) aside spare c.in-Some.link (c.loop-level.invariant t aside spare z e h) (sym c.in-Some.ensures) (omega (arith, count, w.if-ahead-count.false)))
    ]

pub returns : goal.returns
returns g c =
    λ t aside spare z e h.
    sum_deep g.M.Measure.unit g.M.Measure.add g.M.Measure.weight g.met.M.Measure.associative g.met.M.Measure.unit_left g.met.M.Measure.unit_right g.met.M.Measure.lighter c.args.store.now c.loop-level.here c.loop-level.ahead c.loop-level._level c.args.at c.loop-level.sum (flat t) aside spare (c.loop-level.invariant t aside spare z e h) (omega (arith, c.len-level-end.ensures, c.loop-level-test.false))
