use Rattle.std.proofs.Common.{◌≡◌, drop}
use Rattle.std.specs.Prelude.{None}
use Rattle.machine.specs.Lawful.{numbers}
use Rattle.transcript_check.specs.Order.{rises}
use Rattle.transcript_check.proofs.rising.rise.Given as goal

abbrev pub invariant-loop-i : goal.invariant-loop-i
invariant-loop-i l = rises None (numbers l.replies) ≡ rises l.last (numbers (drop l.i l.replies))
