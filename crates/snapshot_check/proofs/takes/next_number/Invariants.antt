use Rattle.std.proofs.Common.{◌≡◌, drop}
use Rattle.machine.specs.Lawful.{numbers}
use Rattle.snapshot_check.specs.Takes.{first_number}
use Rattle.snapshot_check.proofs.takes.next_number.Given as goal

abbrev pub invariant-loop-i : goal.invariant-loop-i
invariant-loop-i l = first_number (numbers (drop l.from l.replies)) ≡ first_number (numbers (drop l.i l.replies))
