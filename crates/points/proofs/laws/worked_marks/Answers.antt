use Rattle.points.proofs.MarkRows.{marks_worked_out}
use Rattle.points.proofs.laws.worked_marks.Goals as goal

pub returns : goal.returns
returns c = marks_worked_out
