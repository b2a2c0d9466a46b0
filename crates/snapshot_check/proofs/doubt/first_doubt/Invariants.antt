use Rattle.snapshot_check.specs.Showing.{AreGood}
use Rattle.snapshot_check.proofs.doubt.first_doubt.Given as goal

abbrev pub invariant-loop-i : goal.invariant-loop-i
invariant-loop-i l = AreGood l.versions l.right l.takes l.i
