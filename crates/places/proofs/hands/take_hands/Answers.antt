use Rattle.std.proofs.Common.{arith}
use Rattle.places.specs.Placed.{without}
use Rattle.places.proofs.ListLemmas.{changed_more}
use Rattle.places.proofs.hands.take_hands.Goals as goal

pub loop-at-preserved : goal.loop-at-preserved
loop-at-preserved g c = changed_more (without c.args.hands) c.loop-at.at c.args.entries.now c.loop-at.entries c.index-entries-at.result c.loop-at.invariant (omega arith)
