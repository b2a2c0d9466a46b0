use Rattle.std.proofs.Common.{◌≡◌, ◌≤◌, ◌-◌, ◌++◌, length, drop}
use Rattle.places.specs.Placed.{hands_of, others_of, top_alone}
use Rattle.places.proofs.ListLemmas.{narrowed_from}
use Rattle.places.proofs.hands.narrow_hands.Given as goal

abbrev pub invariant-loop-at : goal.invariant-loop-at
invariant-loop-at g l = record {
  within : l.at ≤ length l.initial.entries - 1;
  seen : l.seen ≡ hands_of (drop l.at (others_of l.initial.entries));
  list : l.entries ≡ narrowed_from l.at (others_of l.initial.entries) ++ top_alone l.initial.entries;
}

abbrev pub decreases-loop-at : goal.decreases-loop-at
decreases-loop-at g l = l.at
