use Rattle.std.proofs.Common.{◌≡◌, [], vec_len, vec_capacity}
use Rattle.turn_table.specs.Openings.{AreDealt, deals_from, first_hand}
use Rattle.turn_table.proofs.table.TurnTable.deal_hands.Given as goal

abbrev pub invariant-loop : goal.invariant-loop
invariant-loop g l = record {
  table : l.seat.table_id ≡ l.self.table.shared.table_id;
  me : l.seat.me ≡ (deals_from l.desks l.desks l.counter l.count, []);
  dealt : AreDealt l.self.table.shared.table_id first_hand l.counter l.hands.items;
  len : vec_len l.hands ≡ l.counter;
  capacity : vec_capacity l.hands ≡ vec_capacity l.initial.hands;
}
