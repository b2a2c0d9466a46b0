use Rattle.std.proofs.Common.{◌≡◌, ◌-◌, ◌≤◌, ◌++◌, length, drop}
use Rattle.patch.specs.Hunk.{hunks_of}
use Rattle.patch.specs.Spliced.{absorption}
use Rattle.patch.proofs.absorb.absorb.Given as goal

abbrev pub invariant-loop-kept : goal.invariant-loop-kept
invariant-loop-kept l = record {
  low : l.fn.first ≤ l.stop;
  high : l.stop ≤ length l.changes;
  passed : l.passed ≤ length l.deleted;
  mid : l.old_text ++ (absorption l.place (drop l.passed l.deleted) (hunks_of (drop l.stop l.changes))).mid ≡ l.fn.old_text ++ (absorption l.fn.start l.deleted (hunks_of (drop l.fn.first l.changes))).mid;
  post : (absorption l.place (drop l.passed l.deleted) (hunks_of (drop l.stop l.changes))).post ≡ (absorption l.fn.start l.deleted (hunks_of (drop l.fn.first l.changes))).post;
  rest : (absorption l.place (drop l.passed l.deleted) (hunks_of (drop l.stop l.changes))).rest ≡ (absorption l.fn.start l.deleted (hunks_of (drop l.fn.first l.changes))).rest;
}

abbrev pub decreases-loop-kept : goal.decreases-loop-kept
decreases-loop-kept l = length l.changes - l.stop
