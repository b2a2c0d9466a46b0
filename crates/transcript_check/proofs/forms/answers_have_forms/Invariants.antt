use Rattle.std.proofs.Common.{◌≡◌, length, drop}
use Rattle.machine.specs.Lawful.{answers_have_forms}
use Rattle.transcript_check.proofs.forms.answers_have_forms.Given as goal

abbrev pub invariant-loop-i : goal.invariant-loop-i
invariant-loop-i l = record { long : length l.reads ≡ length l.answers; so_far : answers_have_forms l.reads l.answers ≡ answers_have_forms (drop l.i l.reads) (drop l.i l.answers) }
