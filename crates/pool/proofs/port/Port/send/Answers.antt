use Rattle.std.proofs.Common.{sym, ap, ◌∙◌, arith}
use Rattle.std.proofs.lemmas.Bool.Decides.{nat_tests}
use Rattle.pool.specs.Sendings.{queued}
use Rattle.pool.proofs.Steps.{put_noted}
use Rattle.pool.proofs.port.Port.send.Goals as goal

pub invariant_of-self : goal.invariant_of-self
invariant_of-self g c =
    let inv = c.self.invariant in
    let put = c.in-Ok.ensures.put in (
      record { queue = c.put.ensures.queue; part = ap (λ v. v.parts) put ∙ inv.0.part },
      inv.1,
      put_noted g.M.Matcher.tells g.K.Sink.taken g.K.Sink.faults _ _ _ _ _ _ _ put c.push_reserved.ensures.items (ap queued (c.of-shown.ensures ∙ sym c.new.ensures)) inv.2,
      grind (arith, nat_tests, c.if-prove.false, c.len.ensures, c.push_reserved.ensures.len),
      grind (arith, c.push_reserved.ensures.len, inv.4),
      grind (arith, c.push_reserved.ensures.capacity, inv.5),
      grind (arith, inv.6),
    )
