use Rattle.std.proofs.Common.{subst, arith}
use Rattle.transcript_check.specs.Order.{IsTaken, IsFilled}
use Rattle.transcript_check.proofs.Slots.{twice, next_slots}
use Rattle.transcript_check.proofs.order.slots.Goals as goal

pub returns-then-not-fill : goal.returns-then-not-fill
returns-then-not-fill c = twice c.args.calls.now c.loop-i.i c.index-calls-i.result c.loop-i.slots.items (omega (arith, c.loop-i-test.true)) c.index-calls-i.is
    (subst (λ n. IsTaken c.loop-i.slots.items n) c.at.ensures c.if-not-fill.ensures.taken) c.loop-i.invariant

pub loop-i-preserved : goal.loop-i-preserved
loop-i-preserved c = next_slots c.args.calls.now c.loop-i.i c.index-calls-i.result c.loop-i.slots.items c.fill.new.slots.items (omega (arith, c.loop-i-test.true)) c.index-calls-i.is
    (subst (λ n. IsFilled c.loop-i.slots.items n c.loop-i.i c.fill.new.slots.items) c.at.ensures c.if-not-fill.ensures.filled) c.loop-i.invariant
