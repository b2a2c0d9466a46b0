use Rattle.std.proofs.Common.{rules}
use Rattle.turn_table.proofs.DecideLemmas.{decides}
use Rattle.turn_table.proofs.table.TurnTable.decide.Goals as goal

pub fetch_add-requires : goal.fetch_add-requires
fetch_add-requires g c = let may = c.requires.may in
    (c.requires.table, search rules, decides _ _ _ _ _ _ _ _ may.state may.made _ may.entry _ may.asked_is may.holds may.legal may.may)
