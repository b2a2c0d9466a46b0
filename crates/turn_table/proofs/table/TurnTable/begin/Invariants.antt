use Rattle.std.proofs.Common.{Some}
use Rattle.turn_table.proofs.table.TurnTable.begin.Given as goal

abbrev pub ghosts-lock : goal.ghosts-lock
ghosts-lock g a = record { start = Some (g.O.Object.state a.self.now.table.shared.key.object.value); desks = a.self.now.table.shared.key.desks }
