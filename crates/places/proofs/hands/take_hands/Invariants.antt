use Rattle.std.proofs.Common.{◌≡◌, ◌++◌, map, take, drop}
use Rattle.places.specs.Placed.{without}
use Rattle.places.proofs.hands.take_hands.Given as goal

abbrev pub invariant-loop-at : goal.invariant-loop-at
invariant-loop-at g l = l.entries ≡ map (without l.hands) (take l.at l.initial.entries) ++ drop l.at l.initial.entries
