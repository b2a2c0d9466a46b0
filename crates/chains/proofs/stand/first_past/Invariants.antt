use Rattle.std.proofs.Common.{◌≡◌, ℕ, ◌+◌, ◌-◌, ◌<◌, ◌≤◌, length, slice_get, Some}
use Rattle.chains.specs.declared.overlay.Cut.{Cut}
use Rattle.chains.proofs.stand.first_past.Given as goal

abbrev pub invariant-halve : goal.invariant-halve
invariant-halve l = (l.low ≤ l.high) × (l.high ≤ length l.cuts) × ((c : Cut) → 0 < l.low → slice_get l.cuts (l.low - 1) ≡ Some c → c.new.offset ≤ l.at)
    × ((c : Cut) → slice_get l.cuts l.high ≡ Some c → l.at < c.new.offset)

abbrev pub decreases-halve : goal.decreases-halve
decreases-halve l = l.high - l.low
