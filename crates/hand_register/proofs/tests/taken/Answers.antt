use Rattle.hand_register.proofs.SeatLemmas.{are_front}
use Rattle.hand_register.proofs.tests.taken.Goals as goal

pub returns-clause-others : goal.returns-clause-others
returns-clause-others c = are_front c.args.table.now.table.shared.table_id _ _ _ c.pop.ensures.items c.requires
