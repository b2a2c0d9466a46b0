use Rattle.std.proofs.Common.{sym, ap, ◌∙◌, arith}
use Rattle.std.proofs.lemmas.Bool.Decides.{nat_tests}
use Rattle.pool.specs.Sendings.{run_here}
use Rattle.pool.proofs.Steps.{run_noted}
use Rattle.pool.proofs.port.Port.run_here.Goals as goal

pub invariant_of-self : goal.invariant_of-self
invariant_of-self g c =
    let inv = c.self.invariant in (
      inv.0,
      inv.1,
      run_noted g.M.Matcher.tells g.K.Sink.taken g.K.Sink.faults _ _ _ _ _ _ _ c.push_reserved.ensures.items c.push_reserved-2.ensures.items (c.run_at_once-done.ensures.task ∙ ap run_here (sym c.of-shown.ensures)) c.run_at_once-done.ensures.ended inv.2,
      grind (arith, nat_tests, c.if-prove.false, c.len.ensures, c.push_reserved.ensures.len),
      grind (arith, c.push_reserved.ensures.len, c.push_reserved-2.ensures.len, inv.4),
      grind (arith, c.push_reserved.ensures.capacity, inv.5),
      grind (arith, c.push_reserved-2.ensures.capacity, inv.6),
    )
