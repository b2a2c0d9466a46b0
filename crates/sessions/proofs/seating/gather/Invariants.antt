use Rattle.std.proofs.Common.{◌≡◌, ◌≤◌, List, length}
use Rattle.std.specs.List.{AllByRecursion}
use Rattle.std.specs.Vec.Iter.{into_iter_items, into_iter_len}
use Rattle.turn_table.specs.Calls.{Has}
use Rattle.shared_buffer.specs.Tokens.{IsDeskOf}
use Rattle.sessions.specs.Seats.{HasEnded, HaveRun, Work}
use Rattle.sessions.proofs.SeatLemmas.{Gathering}
use Rattle.sessions.proofs.seating.gather.Given as goal

abbrev pub invariant-loop-seat : goal.invariant-loop-seat
invariant-loop-seat g l = record {
  len : into_iter_len l.seat-iterator ≡ length (into_iter_items l.seat-iterator);
  desk : IsDeskOf l.buffer l.desk;
  ended : AllByRecursion (HasEnded g.M.Matcher.tells l.buffer) (into_iter_items l.seat-iterator);
  way : (ws : List Work) → length ws ≤ l.buffer.desks → HaveRun g.M.Matcher.tells l.buffer 0 ws l.fn.seats.items → Has (Gathering g.M.Matcher.tells l.buffer ws (into_iter_items l.seat-iterator) l.all.items) l.desk.views;
}
