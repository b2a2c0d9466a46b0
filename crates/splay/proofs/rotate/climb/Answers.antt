use Rattle.std.proofs.Common.{sym, subst}
use Rattle.splay.specs.Places.{IsNode, LiftsLeft, LiftsRight}
use Rattle.splay.proofs.Climb.{node_above, node_lifted, node_under_lifted, rises_once, rises_twice, rises_with_parent}
use Rattle.splay.proofs.rotate.climb.Goals as goal
use Rattle.splay.proofs.rotate.climb.Goals.{then-middle-x, else-middle-x}

pub lift-requires-then-middle-x : goal.lift-requires-then-middle-x
lift-requires-then-middle-x g c =
    node_above g.M.Measure.unit g.M.Measure.add g.M.Measure.weight c.args.store.now c.args.x c.in-Some.low c.in-Some-find.middle c.requires (sym c.in-Some.ensures) (sym c.in-Some-find.ensures)

pub lift-requires-2 : goal.lift-requires-2
lift-requires-2 g c =
    elim c.if-middle-x.branch [
      | then-middle-x w ↦
          subst (λ s. IsNode g.M.Measure.unit g.M.Measure.add g.M.Measure.weight s c.args.x) (sym w.store-is)
          (node_under_lifted g.M.Measure.unit g.M.Measure.add g.M.Measure.weight c.args.store.now w.lift-then-middle-x.new.store c.args.x c.in-Some.low c.in-Some-find.middle c.in-Some-find-2.high c.requires (sym c.in-Some.ensures) (sym c.in-Some-find.ensures) (sym c.in-Some-find-2.ensures) w.lift-then-middle-x.ensures.left w.lift-then-middle-x.ensures.right)
      | else-middle-x w ↦
          subst (λ s. IsNode g.M.Measure.unit g.M.Measure.add g.M.Measure.weight s c.args.x) (sym w.store-is)
          (node_lifted g.M.Measure.unit g.M.Measure.add g.M.Measure.weight c.args.store.now w.lift-else-middle-x.new.store c.args.x c.in-Some.low c.in-Some-find.middle c.requires (sym c.in-Some.ensures) (sym c.in-Some-find.ensures) w.lift-else-middle-x.ensures.left w.lift-else-middle-x.ensures.right)
    ]

pub returns-in_default-find-2-clause-rises : goal.returns-in_default-find-2-clause-rises
returns-in_default-find-2-clause-rises g c =
    λ _. rises_once g.M.Measure.unit g.M.Measure.add g.M.Measure.weight c.args.store.now c.lift.new.store c.args.x c.in-Some.low c.in-Some-find.middle (sym c.in-Some.ensures) (sym c.in-Some-find.ensures) c.lift.ensures.left c.lift.ensures.right

pub returns-clause-rises : goal.returns-clause-rises
returns-clause-rises g c =
    λ _.
    elim c.if-middle-x.branch [
      | then-middle-x w ↦
          rises_with_parent g.M.Measure.unit g.M.Measure.add g.M.Measure.weight c.args.store.now c.if-middle-x.store c.lift-2.new.store c.args.x c.in-Some.low c.in-Some-find.middle c.in-Some-find-2.high (sym c.in-Some.ensures) (sym c.in-Some-find.ensures) (sym c.in-Some-find-2.ensures)
          (subst (λ s. LiftsLeft g.M.Measure.unit g.M.Measure.add g.M.Measure.weight c.args.store.now s c.in-Some.low.parent) (sym w.store-is) w.lift-then-middle-x.ensures.left)
          (subst (λ s. LiftsRight g.M.Measure.unit g.M.Measure.add g.M.Measure.weight c.args.store.now s c.in-Some.low.parent) (sym w.store-is) w.lift-then-middle-x.ensures.right)
          c.lift-2.ensures.left c.lift-2.ensures.right
      | else-middle-x w ↦
          rises_twice g.M.Measure.unit g.M.Measure.add g.M.Measure.weight c.args.store.now c.if-middle-x.store c.lift-2.new.store c.args.x c.in-Some.low c.in-Some-find.middle c.in-Some-find-2.high (sym c.in-Some.ensures) (sym c.in-Some-find.ensures) (sym c.in-Some-find-2.ensures)
          (subst (λ s. LiftsLeft g.M.Measure.unit g.M.Measure.add g.M.Measure.weight c.args.store.now s c.args.x) (sym w.store-is) w.lift-else-middle-x.ensures.left)
          (subst (λ s. LiftsRight g.M.Measure.unit g.M.Measure.add g.M.Measure.weight c.args.store.now s c.args.x) (sym w.store-is) w.lift-else-middle-x.ensures.right)
          c.lift-2.ensures.left c.lift-2.ensures.right
    ]
