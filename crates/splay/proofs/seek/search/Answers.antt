use Rattle.std.proofs.Common.{◌≡◌, sym, ap, ◌∙◌, arith}
use Rattle.splay.specs.Tree.{flat}
use Rattle.splay.specs.Sums.{count_in, sum_behind, all_behind}
use Rattle.splay.specs.Nodes.{tally_at}
use Rattle.splay.proofs.WalkSums.{search_start, search_light, search_few, search_left, search_right, search_unread, search_deep}
use Rattle.splay.proofs.seek.search.Goals as goal
use Rattle.splay.proofs.seek.search.Goals.{then-passes, else-passes}

pub loop-level-init : goal.loop-level-init
loop-level-init g c =
    λ t aside spare z e. search_start g.M.Measure.unit g.M.Measure.add g.M.Measure.weight g.met.M.Measure.associative g.met.M.Measure.unit_left g.met.M.Measure.unit_right g.met.M.Measure.lighter (g.S.Seek.passes c.args.seek.now) c.args.store.now c.args.root t aside spare z e

pub behind-requires : goal.behind-requires
behind-requires g c =
    let i = c.requires in
    rw c.tally-left.ensures
    (search_light g.M.Measure.unit g.M.Measure.add g.M.Measure.weight g.met.M.Measure.associative g.met.M.Measure.unit_left g.met.M.Measure.unit_right g.met.M.Measure.lighter (g.S.Seek.passes c.args.seek.now) c.args.store.now c.loop-level.here c.loop-level.last c.loop-level.count c.loop-level._level c.loop-level.sum (flat i.tree) i.aside i.spare c.in-Some.link (c.loop-level.invariant i.tree i.aside i.spare i.zipped i.root_is) (sym c.in-Some.ensures)).part

pub with-through-requires : goal.with-through-requires
with-through-requires g c =
    let i = c.requires in
    rw (c.behind.ensures, c.tally-left.ensures)
    (search_light g.M.Measure.unit g.M.Measure.add g.M.Measure.weight g.met.M.Measure.associative g.met.M.Measure.unit_left g.met.M.Measure.unit_right g.met.M.Measure.lighter (g.S.Seek.passes c.args.seek.now) c.args.store.now c.loop-level.here c.loop-level.last c.loop-level.count c.loop-level._level c.loop-level.sum (flat i.tree) i.aside i.spare c.in-Some.link (c.loop-level.invariant i.tree i.aside i.spare i.zipped i.root_is) (sym c.in-Some.ensures)).item

pub overflow_add-count : goal.overflow_add-count
overflow_add-count g c =
    let i = c.requires in
    let few = search_few g.M.Measure.unit g.M.Measure.add g.M.Measure.weight g.met.M.Measure.associative g.met.M.Measure.unit_left g.met.M.Measure.unit_right g.met.M.Measure.lighter (g.S.Seek.passes c.args.seek.now) c.args.store.now c.loop-level.here c.loop-level.last c.loop-level.count c.loop-level._level c.loop-level.sum (flat i.tree) i.aside i.spare c.in-Some.link (c.loop-level.invariant i.tree i.aside i.spare i.zipped i.root_is) (sym c.in-Some.ensures) in
    let count : c.count_of.result ≡ count_in (tally_at c.args.store.now c.in-Some.link.left) = c.count_of.ensures ∙ ap count_in c.tally-left.ensures in
    omega arith

pub overflow_add-count-then-passes : goal.overflow_add-count-then-passes
overflow_add-count-then-passes g c =
    let i = c.requires in
    let few = search_few g.M.Measure.unit g.M.Measure.add g.M.Measure.weight g.met.M.Measure.associative g.met.M.Measure.unit_left g.met.M.Measure.unit_right g.met.M.Measure.lighter (g.S.Seek.passes c.args.seek.now) c.args.store.now c.loop-level.here c.loop-level.last c.loop-level.count c.loop-level._level c.loop-level.sum (flat i.tree) i.aside i.spare c.in-Some.link (c.loop-level.invariant i.tree i.aside i.spare i.zipped i.root_is) (sym c.in-Some.ensures) in
    let count : c.count_of.result ≡ count_in (tally_at c.args.store.now c.in-Some.link.left) = c.count_of.ensures ∙ ap count_in c.tally-left.ensures in
    omega arith

pub returns-in_default : goal.returns-in_default
returns-in_default g c =
    λ t aside spare z e.
    search_unread g.M.Measure.unit g.M.Measure.add g.M.Measure.weight g.met.M.Measure.associative g.met.M.Measure.unit_left g.met.M.Measure.unit_right g.met.M.Measure.lighter (g.S.Seek.passes c.args.seek.now) (g.met.S.Seek.stays c.args.seek.now) c.args.store.now c.loop-level.here c.loop-level.last c.loop-level.count c.loop-level._level c.loop-level.sum (flat t) aside spare (c.loop-level.invariant t aside spare z e) (sym c.find.ensures ∙ c.in_default.is)

pub loop-level-preserved : goal.loop-level-preserved
loop-level-preserved g c =
    let through : c.with-through.result ≡ sum_behind g.M.Measure.add (all_behind g.M.Measure.add c.loop-level.sum (tally_at c.args.store.now c.in-Some.link.left)) c.in-Some.link.own =
    c.with-through.ensures ∙ ap (λ s. sum_behind g.M.Measure.add s c.in-Some.link.own) (c.behind.ensures ∙ ap (λ p. all_behind g.M.Measure.add c.loop-level.sum p) c.tally-left.ensures) in
    elim c.if-passes.branch [
      | then-passes w ↦
          λ t aside spare z e.
          let count : w.count_of.result ≡ count_in (tally_at c.args.store.now c.in-Some.link.left) = w.count_of.ensures ∙ ap count_in c.tally-left.ensures in
          rw (w.here-is, w.count-is, w.sum-is, through, count)
          (search_right g.M.Measure.unit g.M.Measure.add g.M.Measure.weight g.met.M.Measure.associative g.met.M.Measure.unit_left g.met.M.Measure.unit_right g.met.M.Measure.lighter (g.S.Seek.passes c.args.seek.now) c.args.store.now c.loop-level.here c.loop-level.last c.loop-level.count c.loop-level._level c.loop-level.sum (flat t) aside spare c.in-Some.link (c.loop-level.invariant t aside spare z e) (sym c.in-Some.ensures)
          (ap (g.S.Seek.passes c.args.seek.now) (sym through) ∙ sym c.passes.ensures ∙ w.if-passes.true))
      | else-passes w ↦
          λ t aside spare z e.
          rw (w.here-is, w.count-is, w.sum-is)
          (search_left g.M.Measure.unit g.M.Measure.add g.M.Measure.weight g.met.M.Measure.associative g.met.M.Measure.unit_left g.met.M.Measure.unit_right g.met.M.Measure.lighter (g.S.Seek.passes c.args.seek.now) c.args.store.now c.loop-level.here c.loop-level.last c.loop-level.count c.loop-level._level c.loop-level.sum (flat t) aside spare c.in-Some.link (c.loop-level.invariant t aside spare z e) (sym c.in-Some.ensures)
          (ap (g.S.Seek.passes c.args.seek.now) (sym through) ∙ sym c.passes.ensures ∙ w.if-passes.false))
    ]

pub returns : goal.returns
returns g c =
    λ t aside spare z e.
    search_deep g.M.Measure.unit g.M.Measure.add g.M.Measure.weight g.met.M.Measure.associative g.met.M.Measure.unit_left g.met.M.Measure.unit_right g.met.M.Measure.lighter (g.S.Seek.passes c.args.seek.now) (g.met.S.Seek.stays c.args.seek.now) c.args.store.now c.loop-level.here c.loop-level.last c.loop-level.count c.loop-level._level c.loop-level.sum (flat t) aside spare (c.loop-level.invariant t aside spare z e) (omega (arith, c.len-level-end.ensures, c.loop-level-test.false))
