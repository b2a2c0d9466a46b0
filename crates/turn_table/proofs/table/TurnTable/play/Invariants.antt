use Rattle.std.proofs.Common.{Some}
use Rattle.turn_table.proofs.table.TurnTable.play.Given as goal

abbrev pub ghosts-decide : goal.ghosts-decide
ghosts-decide g a = record { entry = Some (g.O.Object.told a.asked.now.value a.reply.now); back = g.O.Object.back a.asked.now.value }
