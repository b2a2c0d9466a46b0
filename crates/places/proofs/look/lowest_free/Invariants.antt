use Rattle.std.proofs.Common.{◌≡◌, ℕ, ◌<◌, ◌≤◌, ◌-◌, true}
use Rattle.places.specs.Placed.{is_live}
use Rattle.places.proofs.look.lowest_free.Given as goal

abbrev pub invariant-loop-place : goal.invariant-loop-place
invariant-loop-place g l = record {
  within : l.place ≤ 272;
  live : (q : ℕ) → q < l.place → is_live l.entries q ≡ true;
}

abbrev pub decreases-loop-place : goal.decreases-loop-place
decreases-loop-place g l = 272 - l.place
