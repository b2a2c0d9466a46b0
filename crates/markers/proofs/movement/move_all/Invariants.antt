use Rattle.std.proofs.Common.{◌≡◌, ◌++◌, map, take, drop}
use Rattle.points.specs.Marks.{moved}
use Rattle.markers.proofs.movement.move_all.Given as goal

abbrev pub invariant-loop-at : goal.invariant-loop-at
invariant-loop-at l = l.marks.items ≡ map (moved l.splice) (take l.at l.initial.marks.items) ++ drop l.at l.initial.marks.items
