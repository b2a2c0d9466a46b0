use Rattle.std.proofs.Common.{◌≡◌, ◌≤◌, length}
use Rattle.std.specs.Prelude.{vec_len}
use Rattle.std.specs.Vec.Iter.{into_iter_items, into_iter_len}
use Rattle.sessions.specs.Seats.{hands_wanted}
use Rattle.sessions.proofs.SeatLemmas.{Seating}
use Rattle.sessions.proofs.seating.seat_all.Given as goal

abbrev pub invariant-loop-plan : goal.invariant-loop-plan
invariant-loop-plan g l = record {
  len : into_iter_len l.plan-iterator ≡ length (into_iter_items l.plan-iterator);
  desks_len : into_iter_len l.desks ≡ length (into_iter_items l.desks);
  hands : hands_wanted (into_iter_items l.plan-iterator) ≤ vec_len l.spare;
  seating : Seating l.fn.plans.items (into_iter_items l.plan-iterator) l.fn.desks.items (into_iter_items l.desks) l.seats.items;
}
