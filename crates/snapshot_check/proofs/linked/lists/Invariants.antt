use Rattle.snapshot_check.specs.Takes.{AreLinked}
use Rattle.snapshot_check.proofs.linked.lists.Given as goal

abbrev pub invariant-loop-i : goal.invariant-loop-i
invariant-loop-i l = AreLinked l.takes l.last l.i l.lasts.items l.nexts.items
