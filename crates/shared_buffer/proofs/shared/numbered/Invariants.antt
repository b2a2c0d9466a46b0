use Rattle.std.specs.Prelude.{◌≡◌, ◌+◌, ◌≤◌, vec_len, vec_capacity}
use Rattle.std.specs.Vec.Iter.{into_iter_items, into_iter_len}
use Rattle.shared_buffer.proofs.HandLemmas.{Numbering}
use Rattle.shared_buffer.proofs.shared.numbered.Given as goal

abbrev pub invariant-loop-seat : goal.invariant-loop-seat
invariant-loop-seat g l = record {
  numbering : Numbering l.buffer l.hands.items (into_iter_items l.seat-iterator);
  len : vec_len l.hands + into_iter_len l.seat-iterator ≡ into_iter_len l.initial.seat-iterator;
  room : into_iter_len l.initial.seat-iterator ≤ vec_capacity l.hands;
  few : into_iter_len l.initial.seat-iterator ≤ 32;
}
