use Rattle.std.proofs.Common.{◌≡◌, ◌≤◌, ◌++◌, length, drop, map}
use Rattle.points.specs.Point.{origin}
use Rattle.patch.specs.Stretches.{parts_seen}
use Rattle.patch_algebra.specs.Merging.{between, betweens_seen, merged}
use Rattle.patch_algebra.proofs.composition.merged.Given as goal

abbrev pub invariant-loop-change : goal.invariant-loop-change
invariant-loop-change l = record {
  within : l.reached.at ≤ length l.middles.items;
  made : parts_seen l.stretches.items ++ merged l.reached.place (betweens_seen (drop l.reached.at l.middles.items)) l.change-iterator ≡ merged origin (map between l.first.changes) l.second.changes;
}
