use Rattle.script.proofs.Counting.{range_in_order}
use Rattle.script.proofs.parts.range_between.Goals as goal

pub returns-then-le : goal.returns-then-le
returns-then-le c = range_in_order c.args.start c.args.end _
