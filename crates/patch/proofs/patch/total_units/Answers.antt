use Rattle.std.proofs.Common.{arith}
use Rattle.patch.proofs.CopyLemmas.{size_more}
use Rattle.patch.proofs.patch.total_units.Goals as goal

pub loop-change-preserved : goal.loop-change-preserved
loop-change-preserved c = omega (arith, size_more c.args.changes.now c.loop-change.change-index c.change-item.result (omega arith) c.change-item.is)
