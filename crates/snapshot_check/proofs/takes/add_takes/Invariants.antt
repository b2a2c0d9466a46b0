use Rattle.snapshot_check.specs.Gathered.{gathered, left_in, AreSame, IsStage}
use Rattle.snapshot_check.proofs.takes.add_takes.Given as goal

abbrev pub invariant-loop-i : goal.invariant-loop-i
invariant-loop-i l = record {
  stage : IsStage l.replies l.i l.stage;
  listed : AreSame l.all (gathered l.takes.items (left_in l.session l.commands l.replies l.i l.stage.patterns)) (gathered l.initial.takes.items (left_in l.session l.commands l.replies 0 l.patterns));
}
