use Rattle.std.proofs.Common.{rules, ap, ◌<◌}
use Rattle.turn_table.proofs.SplitLemmas.{deals_desk_as}
use Rattle.turn_table.proofs.table.TurnTable.deal_desks.Goals as goal

pub split_seat-requires : goal.split_seat-requires
split_seat-requires g c = let inv = c.loop.invariant in let h : c.loop.counter < c.args.count = search rules in
    (inv.table, search rules, deals_desk_as _ _ _ _ _ c.loop.seat.id c.loop.seat.me.0 c.loop.counter c.args.count 0 c.args.hands (ap (λ me. me.0) inv.me) h c.requires.count)
