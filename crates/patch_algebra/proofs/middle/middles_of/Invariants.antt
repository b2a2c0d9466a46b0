use Rattle.std.proofs.Common.{◌≡◌, ◌++◌, map}
use Rattle.patch_algebra.specs.Merging.{between, betweens_seen}
use Rattle.patch_algebra.proofs.middle.middles_of.Given as goal

abbrev pub invariant-loop-change : goal.invariant-loop-change
invariant-loop-change l = betweens_seen l.middles.items ++ map between l.change-iterator ≡ map between l.patch.changes
