use Rattle.std.proofs.Common.{◌≡◌, ◌-◌, ◌^◌, take, min, sum_by}
use Rattle.patch.specs.Hunk.{hunks_of, hunk_size}
use Rattle.patch.proofs.patch.total_units.Given as goal

abbrev pub invariant-loop-change : goal.invariant-loop-change
invariant-loop-change l = l.total ≡ min (2 ^ 64 - 1) (sum_by hunk_size (hunks_of (take l.change-index l.changes)))
