use Rattle.std.proofs.Common.{◌∷◌, ◌++◌, sym, ◌∙◌, arith}
use Rattle.splay.specs.Tree.{flat, before, after}
use Rattle.splay.proofs.OrderLemmas.{leads_start, leads_on, leads_end, leads_read, leads_deep}
use Rattle.splay.proofs.iter.first_below.Goals as goal

pub loop-level-init : goal.loop-level-init
loop-level-init g c = λ m v l r w aside spare z. leads_start g.M.Measure.unit g.M.Measure.add g.M.Measure.weight c.args.store.now c.args.x m v l r w aside spare z

pub returns-in_default : goal.returns-in_default
returns-in_default g c =
    λ m v l r w aside spare z.
    absurd (leads_read g.M.Measure.unit g.M.Measure.add g.M.Measure.weight c.args.store.now c.loop-level.here c.loop-level._level (before w) (flat l ++ (m, v) ∷ flat r ++ after w) aside spare (c.loop-level.invariant m v l r w aside spare z) (sym c.find.ensures ∙ c.in_default.is))

pub returns-then-link : goal.returns-then-link
returns-then-link g c =
    λ m v l r w aside spare z.
    leads_end g.M.Measure.unit g.M.Measure.add g.M.Measure.weight c.args.store.now c.loop-level.here c.loop-level._level (before w) (flat l ++ (m, v) ∷ flat r ++ after w) aside spare c.in-Some.link (c.loop-level.invariant m v l r w aside spare z) (sym c.in-Some.ensures) c.if-link.true

pub loop-level-preserved : goal.loop-level-preserved
loop-level-preserved g c =
    λ m v l r w aside spare z.
    leads_on g.M.Measure.unit g.M.Measure.add g.M.Measure.weight c.args.store.now c.loop-level.here c.loop-level._level (before w) (flat l ++ (m, v) ∷ flat r ++ after w) aside spare c.in-Some.link (c.loop-level.invariant m v l r w aside spare z) (sym c.in-Some.ensures) c.if-link.false

pub returns : goal.returns
returns g c =
    λ m v l r w aside spare z.
    absurd (leads_deep g.M.Measure.unit g.M.Measure.add g.M.Measure.weight c.args.store.now c.loop-level.here c.loop-level._level (before w) (flat l ++ (m, v) ∷ flat r ++ after w) aside spare (c.loop-level.invariant m v l r w aside spare z) (omega (arith, c.len-level-end.ensures, c.loop-level-test.false)))
