use Rattle.std.proofs.Common.{◌∙◌, ap, sym, Some, ◌∷◌}
use Rattle.atomic_table.specs.Table.{rest}
use Rattle.turn_table.proofs.table.TurnTable.begin.Goals as goal

pub exchange-requires : goal.exchange-requires
exchange-requires g c = let grabbed = c.lock.ensures.lock in
    (c.lock.ensures.id.0 ∙ c.requires.table.0, (Some grabbed.object, grabbed.carries ∙ ap (λ l. (0, Some grabbed.object) ∷ rest l) (sym grabbed.carries)))
