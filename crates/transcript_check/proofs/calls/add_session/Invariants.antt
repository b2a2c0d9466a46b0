use Rattle.std.proofs.Common.{◌≡◌, ◌++◌, drop}
use Rattle.machine.specs.Lawful.{session_entries}
use Rattle.transcript_check.proofs.calls.add_session.Given as goal

abbrev pub invariant-loop-i : goal.invariant-loop-i
invariant-loop-i l = l.all.items ++ session_entries (drop l.i l.commands) (drop l.i l.replies) ≡ l.initial.all.items ++ session_entries l.commands l.replies
