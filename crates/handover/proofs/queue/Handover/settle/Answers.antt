use Rattle.handover.proofs.Balances.{merges}
use Rattle.handover.proofs.queue.Handover.settle.Goals as goal

pub absorb-requires-clause-rule : goal.absorb-requires-clause-rule
absorb-requires-clause-rule g c = merges _ _ _ _ c.requires.parts
