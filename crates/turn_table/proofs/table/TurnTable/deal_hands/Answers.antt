use Rattle.std.proofs.Common.{rules, ap, ◌<◌}
use Rattle.turn_table.proofs.SplitLemmas.{deals_hand_as}
use Rattle.turn_table.proofs.table.TurnTable.deal_hands.Goals as goal

pub split_seat-requires : goal.split_seat-requires
split_seat-requires g c = let inv = c.loop.invariant in let h : c.loop.counter < c.args.count = search rules in
    (inv.table, search rules, deals_hand_as _ _ _ _ _ c.loop.seat.id c.loop.seat.me.0 c.args.desks c.args.desks c.loop.counter c.args.count (ap (λ me. me.0) inv.me) h)
