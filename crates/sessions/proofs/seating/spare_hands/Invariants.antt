use Rattle.std.proofs.Common.{◌≡◌, ◌+◌, ◌≤◌, length}
use Rattle.std.specs.Prelude.{vec_len, vec_capacity}
use Rattle.sessions.proofs.seating.spare_hands.Given as goal

abbrev pub decreases-loop-hand : goal.decreases-loop-hand
decreases-loop-hand l = length l.hands.items

abbrev pub invariant-loop-hand : goal.invariant-loop-hand
invariant-loop-hand l = record {
  len : vec_len l.spare + vec_len l.hands ≡ vec_len l.initial.hands;
  room : vec_len l.initial.hands ≤ vec_capacity l.spare;
}
