use Rattle.std.proofs.Common.{◌≡◌, false, drop, map}
use Rattle.patch.specs.Hunk.{hunks_of}
use Rattle.patch.specs.Stretches.{any_far}
use Rattle.patch.specs.Spliced.{moved_hunk}
use Rattle.patch.proofs.splice.any_moved_far.Given as goal

abbrev pub invariant-loop-at : goal.invariant-loop-at
invariant-loop-at l = record {
  near : any_far (hunks_of (drop l.at l.changes)) ≡ false;
  same : any_far (map (moved_hunk l.from l.to) (hunks_of (drop l.at l.changes))) ≡ any_far (map (moved_hunk l.from l.to) (hunks_of (drop l.first l.changes)));
}
