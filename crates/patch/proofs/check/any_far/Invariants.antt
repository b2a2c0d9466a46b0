use Rattle.std.proofs.Common.{◌≡◌, drop}
use Rattle.patch.specs.Hunk.{hunks_of}
use Rattle.patch.specs.Stretches.{any_far}
use Rattle.patch.proofs.check.any_far.Given as goal

abbrev pub invariant-loop-each : goal.invariant-loop-each
invariant-loop-each l = any_far (hunks_of (drop l.each-index l.changes)) ≡ any_far (hunks_of l.changes)
