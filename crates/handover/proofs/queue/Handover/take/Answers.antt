use Rattle.handover.proofs.Balances.{takes, learns}
use Rattle.handover.proofs.queue.Handover.take.Goals as goal

pub pop_as-requires-clause-rule : goal.pop_as-requires-clause-rule
pop_as-requires-clause-rule g c = (takes _ _ c.requires.parts, learns _ _)
