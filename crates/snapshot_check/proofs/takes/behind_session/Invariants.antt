use Rattle.std.proofs.Common.{◌≡◌, ◌+◌, take, min}
use Rattle.machine.specs.Lawful.{patterns_of}
use Rattle.snapshot_check.proofs.takes.behind_session.Given as goal

abbrev pub invariant-loop-i : goal.invariant-loop-i
invariant-loop-i l = l.at ≡ min (l.patterns + patterns_of (take l.i l.commands)) l.all
