use Rattle.points.proofs.MoveTable.{moves_by_table}
use Rattle.points.proofs.laws.movement.Goals as goal

pub returns : goal.returns
returns c = moves_by_table c.args.splice c.args.mark
