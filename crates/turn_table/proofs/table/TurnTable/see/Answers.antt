use Rattle.std.proofs.Common.{rules}
use Rattle.turn_table.proofs.LockLemmas.{sees_as}
use Rattle.turn_table.proofs.table.TurnTable.see.Goals as goal

pub load-requires : goal.load-requires
load-requires g c = (c.requires.table, search rules, sees_as _ _ _ _ _ _ _ _ _ _ c.requires.begun.0 c.requires.begun.1 c.requires.rests)
