use Rattle.std.proofs.Common.{refl, arith}
use Rattle.chains.proofs.WeaverLemmas.{closed_by_none, closed_by_some, units_small}
use Rattle.points.specs.declared.limits.TheConstants.{MAX_UNITS}
use Rattle.chains.proofs.weaver.Weaver.close.Goals as goal

pub returns-then-size-eq0-clause-ok : goal.returns-then-size-eq0-clause-ok
returns-then-size-eq0-clause-ok c = λ s g h. closed_by_none s g c.args.self.now c.from.result c.from-2.result h c.from.ensures (omega (arith, c.from-2.ensures, c.len.ensures.value)) c.if-size-eq0.true

pub overflow_add-self : goal.overflow_add-self
overflow_add-self c = omega (arith, units_small c.requires.0 c.requires.1 c.args.self.now MAX_UNITS c.requires.2 c.requires.3 c.requires.4, c.from.ensures, c.from-2.ensures, c.len.ensures.short)

pub returns-clause-ok : goal.returns-clause-ok
returns-clause-ok c = λ s g h. closed_by_some s g c.args.self.now _ c.from.result c.from-2.result h c.from.ensures (omega (arith, c.from-2.ensures, c.len.ensures.value)) c.if-size-eq0.false c.in_ok-push.ensures.items refl refl refl refl
