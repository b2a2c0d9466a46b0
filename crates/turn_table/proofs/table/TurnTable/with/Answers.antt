use Rattle.turn_table.proofs.DeskLemmas.{desk_may}
use Rattle.turn_table.proofs.table.TurnTable.with.Goals as goal

pub call-requires-clause-may : goal.call-requires-clause-may
call-requires-clause-may g c κs within = let d = c.requires.desk in (d.0, d.1, desk_may g.O.Object.meaning (g.O.Object.told c.args.call) (g.O.Object.back c.args.call) d.0 d.2 c.requires.back)
