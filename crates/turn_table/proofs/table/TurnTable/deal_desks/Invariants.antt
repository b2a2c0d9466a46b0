use Rattle.std.proofs.Common.{◌≡◌, [], vec_len, vec_capacity}
use Rattle.turn_table.specs.Openings.{AreDealt, deals_from, new_desk}
use Rattle.turn_table.proofs.table.TurnTable.deal_desks.Given as goal

abbrev pub invariant-loop : goal.invariant-loop
invariant-loop g l = record {
  table : l.seat.table_id ≡ l.self.table.shared.table_id;
  me : l.seat.me ≡ (deals_from l.counter l.count 0 l.hands, []);
  dealt : AreDealt l.self.table.shared.table_id new_desk l.counter l.desks.items;
  len : vec_len l.desks ≡ l.counter;
  capacity : vec_capacity l.desks ≡ vec_capacity l.initial.desks;
}
