use Rattle.std.proofs.Common.{◌≡◌, ◌++◌, map, take, drop}
use Rattle.places.specs.Placed.{noted}
use Rattle.places.proofs.hands.add_hands.Given as goal

abbrev pub invariant-loop-entry : goal.invariant-loop-entry
invariant-loop-entry g l = l.entries ≡ map (noted l.place l.hands) (take l.entry-index l.initial.entries) ++ drop l.entry-index l.initial.entries
