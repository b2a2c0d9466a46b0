use Rattle.markers.proofs.EndLemmas.{last_more}
use Rattle.markers.proofs.index.MarkerIndex.last.Goals as goal

pub loop-mark-preserved : goal.loop-mark-preserved
loop-mark-preserved c = last_more c.deref-mark-items.result.now c.loop-mark.mark-index _ c.loop-mark.last c.later.result c.loop-mark-test.true c.loop-mark.invariant c.later.ensures
