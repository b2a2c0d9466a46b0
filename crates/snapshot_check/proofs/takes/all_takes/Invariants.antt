use Rattle.std.proofs.Common.{◌≤◌}
use Rattle.machine.specs.Lawful.{all_takings}
use Rattle.snapshot_check.specs.Gathered.{gathered, AreSame}
use Rattle.snapshot_check.proofs.GatherLemmas.{sessions_left}
use Rattle.snapshot_check.proofs.takes.all_takes.Given as goal

abbrev pub invariant-loop-i : goal.invariant-loop-i
invariant-loop-i l = record {
  counted : l.patterns ≤ l.all;
  listed : AreSame l.all (gathered l.takes.items (sessions_left l.sessions l.replies l.i l.patterns)) (λ told. all_takings told 1 l.sessions l.replies);
}
