use Rattle.transcript_check.specs.Order.{AreSlots}
use Rattle.transcript_check.proofs.order.slots.Given as goal

abbrev pub invariant-loop-i : goal.invariant-loop-i
invariant-loop-i l = AreSlots l.calls l.i l.slots.items
