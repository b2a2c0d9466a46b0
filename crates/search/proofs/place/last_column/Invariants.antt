use Rattle.std.proofs.Common.{◌≡◌, ℕ, ◌<◌, ◌≤◌, length, get_or, not, true}
use Rattle.points.specs.Text.{is_lf}
use Rattle.search.proofs.place.last_column.Given as goal

abbrev pub invariant-loop-at : goal.invariant-loop-at
invariant-loop-at l = record {
  within : l.at ≤ length l.bytes;
  behind : (k : ℕ) → l.at ≤ k → k < length l.bytes → not (is_lf (get_or l.bytes k 0)) ≡ true;
}

abbrev pub decreases-loop-at : goal.decreases-loop-at
decreases-loop-at l = l.at
