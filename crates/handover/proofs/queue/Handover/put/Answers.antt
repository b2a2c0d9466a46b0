use Rattle.handover.proofs.Balances.{puts, learns}
use Rattle.handover.proofs.queue.Handover.put.Goals as goal

pub push_as-requires-clause-rule : goal.push_as-requires-clause-rule
push_as-requires-clause-rule g c = (puts _ _ _ _ c.requires.parts, learns _ _)
