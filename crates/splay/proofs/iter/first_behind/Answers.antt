use Rattle.std.proofs.Common.{◌∷◌, ◌++◌, sym, ◌∙◌, arith}
use Rattle.splay.specs.Tree.{flat, before, after}
use Rattle.splay.proofs.OrderLemmas.{climbs_start, climbs_on, climbs_out, climbs_top, climbs_read, climbs_deep}
use Rattle.splay.proofs.iter.first_behind.Goals as goal

pub loop-level-init : goal.loop-level-init
loop-level-init g c = λ m v l r w aside spare z. climbs_start g.M.Measure.unit g.M.Measure.add g.M.Measure.weight c.args.store.now c.args.x m v l r w aside spare z

pub returns-in_default : goal.returns-in_default
returns-in_default g c =
    λ m v l r w aside spare z.
    absurd (climbs_read g.M.Measure.unit g.M.Measure.add g.M.Measure.weight c.args.store.now c.loop-level.below c.loop-level._level (before w ++ (flat l ++ (m, v) ∷ flat r)) (after w) aside spare (c.loop-level.invariant m v l r w aside spare z) (sym c.find.ensures ∙ c.in_default.is))

pub returns-in_default-find : goal.returns-in_default-find
returns-in_default-find g c =
    λ m v l r w aside spare z.
    climbs_top g.M.Measure.unit g.M.Measure.add g.M.Measure.weight c.args.store.now c.loop-level.below c.loop-level._level (before w ++ (flat l ++ (m, v) ∷ flat r)) (after w) aside spare c.in-Some.low (c.loop-level.invariant m v l r w aside spare z) (sym c.in-Some.ensures) (sym c.find-in-loop-level.ensures ∙ c.in_default-find.is)

pub returns-then-high-below : goal.returns-then-high-below
returns-then-high-below g c =
    λ m v l r w aside spare z.
    climbs_out g.M.Measure.unit g.M.Measure.add g.M.Measure.weight c.args.store.now c.loop-level.below c.loop-level._level (before w ++ (flat l ++ (m, v) ∷ flat r)) (after w) aside spare c.in-Some.low c.in-Some-find.high (c.loop-level.invariant m v l r w aside spare z) (sym c.in-Some.ensures) (sym c.in-Some-find.ensures) c.if-high-below.true

pub loop-level-preserved : goal.loop-level-preserved
loop-level-preserved g c =
    λ m v l r w aside spare z.
    climbs_on g.M.Measure.unit g.M.Measure.add g.M.Measure.weight c.args.store.now c.loop-level.below c.loop-level._level (before w ++ (flat l ++ (m, v) ∷ flat r)) (after w) aside spare c.in-Some.low c.in-Some-find.high (c.loop-level.invariant m v l r w aside spare z) (sym c.in-Some.ensures) (sym c.in-Some-find.ensures) c.if-high-below.false

pub returns : goal.returns
returns g c =
    λ m v l r w aside spare z.
    absurd (climbs_deep g.M.Measure.unit g.M.Measure.add g.M.Measure.weight c.args.store.now c.loop-level.below c.loop-level._level (before w ++ (flat l ++ (m, v) ∷ flat r)) (after w) aside spare (c.loop-level.invariant m v l r w aside spare z) (omega (arith, c.len-level-end.ensures, c.loop-level-test.false)))
