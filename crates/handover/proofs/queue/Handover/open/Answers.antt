use Rattle.handover.proofs.Balances.{forks}
use Rattle.handover.proofs.queue.Handover.open.Goals as goal

pub another-requires-clause-rule : goal.another-requires-clause-rule
another-requires-clause-rule g c = forks _ _ c.requires.parts
