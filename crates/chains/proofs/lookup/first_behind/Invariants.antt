use Rattle.std.proofs.Common.{◌≡◌, ℕ, ◌-◌, ◌<◌, ◌≤◌, length, slice_get, Some, true, false}
use Rattle.points.specs.Point.{point_lt}
use Rattle.chains.specs.declared.overlay.Cut.{Cut}
use Rattle.chains.proofs.lookup.first_behind.Given as goal

abbrev pub invariant-halve : goal.invariant-halve
invariant-halve l = (l.low ≤ l.high) × (l.high ≤ length l.cuts) × ((c : Cut) → 0 < l.low → slice_get l.cuts (l.low - 1) ≡ Some c → point_lt l.point c.new.point ≡ false)
    × ((c : Cut) → slice_get l.cuts l.high ≡ Some c → point_lt l.point c.new.point ≡ true)

abbrev pub decreases-halve : goal.decreases-halve
decreases-halve l = l.high - l.low
