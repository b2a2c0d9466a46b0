use Rattle.std.proofs.Common.{sym, ◌∙◌}
use Rattle.splay.proofs.OrderLemmas.{next_up, next_down, next_none}
use Rattle.splay.proofs.iter.next_to.Goals as goal

pub returns-in_default : goal.returns-in_default
returns-in_default g c = next_none g.M.Measure.unit g.M.Measure.add g.M.Measure.weight c.args.store.now c.args.x _ (sym c.find.ensures ∙ c.in_default.is)

pub returns-then-link : goal.returns-then-link
returns-then-link g c = next_up g.M.Measure.unit g.M.Measure.add g.M.Measure.weight c.args.store.now c.args.x c.first_behind.result c.in-Some.link c.first_behind.ensures (sym c.in-Some.ensures) c.if-link.true

pub returns : goal.returns
returns g c = next_down g.M.Measure.unit g.M.Measure.add g.M.Measure.weight c.args.store.now c.args.x c.first_below.result c.in-Some.link c.first_below.ensures (sym c.in-Some.ensures) c.if-link.false
