use Rattle.std.proofs.Common.{◌≡◌, length, drop}
use Rattle.machine.specs.Lawful.{sessions_have_forms}
use Rattle.transcript_check.proofs.forms.sessions_have_forms.Given as goal

abbrev pub invariant-loop-i : goal.invariant-loop-i
invariant-loop-i l = record { long : length l.sessions ≡ length l.replies; so_far : sessions_have_forms l.version l.sessions l.replies ≡ sessions_have_forms l.version (drop l.i l.sessions) (drop l.i l.replies) }
