use Rattle.std.proofs.Common.{◌≤◌, ◌-◌, length, drop}
use Rattle.patch.specs.Stretches.{parts_seen}
use Rattle.patch_algebra.specs.Merging.{betweens_seen, Opens}
use Rattle.patch_algebra.proofs.composition.pass.Given as goal

abbrev pub invariant-loop-reached : goal.invariant-loop-reached
invariant-loop-reached l = record {
  within : l.reached.at ≤ length l.middles;
  opens : Opens l.to (parts_seen l.initial.stretches.items) l.initial.reached.place (betweens_seen (drop l.initial.reached.at l.middles)) (parts_seen l.stretches.items) l.reached.place (betweens_seen (drop l.reached.at l.middles));
}

abbrev pub decreases-loop-reached : goal.decreases-loop-reached
decreases-loop-reached l = length l.middles - l.reached.at
