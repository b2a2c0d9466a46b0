use Rattle.handover.proofs.Balances.{learns}
use Rattle.handover.proofs.queue.Handover.whole.Goals as goal

pub learn_as-requires-clause-rule : goal.learn_as-requires-clause-rule
learn_as-requires-clause-rule g c = learns _ _
