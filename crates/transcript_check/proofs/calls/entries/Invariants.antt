use Rattle.std.proofs.Common.{◌≡◌, ◌++◌, drop}
use Rattle.machine.specs.Lawful.{entries}
use Rattle.transcript_check.proofs.calls.entries.Given as goal

abbrev pub invariant-loop-i : goal.invariant-loop-i
invariant-loop-i l = l.all.items ++ entries (drop l.i l.sessions) (drop l.i l.replies) ≡ entries l.sessions l.replies
