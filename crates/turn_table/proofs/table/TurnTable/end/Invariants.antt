use Rattle.std.proofs.Common.{Some}
use Rattle.turn_table.proofs.table.TurnTable.end.Given as goal

abbrev pub ghosts-see : goal.ghosts-see
ghosts-see g a = record { start = Some (g.O.Object.state a.self.now.table.shared.key.object.value); desks = a.self.now.table.shared.key.desks }
