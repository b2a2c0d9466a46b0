use Rattle.std.proofs.Common.{sym, subst, arith}
use Rattle.splay.specs.Places.{RisesToTop}
use Rattle.splay.proofs.Climb.{risen_node, risen_more, risen_top, risen_all}
use Rattle.splay.proofs.rotate.splay.Goals as goal

pub loop-level-init : goal.loop-level-init
loop-level-init g c = λ front m v back aside spare n s. (n, omega arith, s)

pub climb-requires : goal.climb-requires
climb-requires g c =
    risen_node g.M.Measure.unit g.M.Measure.add g.M.Measure.weight c.args.store.now c.loop-level.store c.args.x c.loop-level._level c.requires c.loop-level.invariant

pub loop-level-preserved : goal.loop-level-preserved
loop-level-preserved g c =
    risen_more g.M.Measure.unit g.M.Measure.add g.M.Measure.weight c.args.store.now c.loop-level.store c.climb.new.store c.args.x c.loop-level._level c.loop-level.invariant (c.climb.ensures.rises c.if-not-climb.false)

pub returns-after-loop-level : goal.returns-after-loop-level
returns-after-loop-level g c =
    risen_all g.M.Measure.unit g.M.Measure.add g.M.Measure.weight c.args.store.now c.loop-level.store c.args.x c.loop-level._level c.loop-level.invariant (omega (arith, c.len-level-end.ensures, c.loop-level-test.false))

pub returns-then-not-climb : goal.returns-then-not-climb
returns-then-not-climb g c =
    subst (λ s. RisesToTop g.M.Measure.unit g.M.Measure.add g.M.Measure.weight c.args.store.now s c.args.x) (sym (c.climb.ensures.stays c.if-not-climb.true))
    (risen_top g.M.Measure.unit g.M.Measure.add g.M.Measure.weight c.args.store.now c.loop-level.store c.args.x c.loop-level._level c.loop-level.invariant (c.climb.ensures.top c.if-not-climb.true))
