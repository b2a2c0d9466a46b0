use Rattle.std.proofs.Common.{◌≡◌, ◌≤◌, ◌-◌, ◌++◌, length, drop}
use Rattle.points.specs.declared.point.Point.{Point}
use Rattle.patch.specs.Stretches.{parts_seen}
use Rattle.patch_algebra.specs.Merging.{betweens_seen, removal}
use Rattle.patch_algebra.proofs.composition.remove.Given as goal

abbrev pub invariant-loop-kept : goal.invariant-loop-kept
invariant-loop-kept l = record {
  within : l.stop ≤ length l.middles;
  parts : (end : Point) → parts_seen l.stretches.items ++ (removal end l.place l.units (betweens_seen (drop l.stop l.middles))).parts ≡ parts_seen l.initial.stretches.items ++ (removal end l.initial.place l.initial.units (betweens_seen (drop l.initial.stop l.middles))).parts;
  rest : (end : Point) → (removal end l.place l.units (betweens_seen (drop l.stop l.middles))).rest ≡ (removal end l.initial.place l.initial.units (betweens_seen (drop l.initial.stop l.middles))).rest;
}

abbrev pub decreases-loop-kept : goal.decreases-loop-kept
decreases-loop-kept l = length l.middles - l.stop
