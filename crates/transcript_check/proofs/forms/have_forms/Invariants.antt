use Rattle.std.proofs.Common.{◌≡◌, length, drop}
use Rattle.machine.specs.Lawful.{have_forms}
use Rattle.transcript_check.proofs.forms.have_forms.Given as goal

abbrev pub invariant-loop-i : goal.invariant-loop-i
invariant-loop-i l = record { long : length l.commands ≡ length l.replies; so_far : have_forms l.version l.commands l.replies ≡ have_forms l.version (drop l.i l.commands) (drop l.i l.replies) }
