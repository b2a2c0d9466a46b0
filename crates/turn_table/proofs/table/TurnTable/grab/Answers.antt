use Rattle.std.proofs.Common.{rules}
use Rattle.turn_table.proofs.LockLemmas.{grabs_as}
use Rattle.turn_table.proofs.table.TurnTable.grab.Goals as goal

pub compare_exchange-requires : goal.compare_exchange-requires
compare_exchange-requires g c = (c.requires.table, search rules, grabs_as _ _ _ _ _ _ _ _ _ _ c.requires.begun.0 c.requires.begun.1)
