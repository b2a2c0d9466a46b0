use Rattle.std.proofs.Common.{◌≡◌, ◌++◌, false, length, take, drop, map}
use Rattle.std.specs.List.{All}
use Rattle.patch.specs.Hunk.{hunks_of}
use Rattle.patch.specs.ChangeList.{IsOrdered}
use Rattle.patch.specs.Stretches.{any_far}
use Rattle.patch.specs.Spliced.{moved_hunk}
use Rattle.patch.proofs.splice.move_behind.Given as goal

abbrev pub invariant-loop-at : goal.invariant-loop-at
invariant-loop-at l = record {
  size : length l.changes.items ≡ length l.fn.changes.items;
  behind : drop l.at l.changes.items ≡ drop l.at l.fn.changes.items;
  ordered : All IsOrdered (map (moved_hunk l.from l.to) (hunks_of (drop l.at l.fn.changes.items)));
  near : any_far (map (moved_hunk l.from l.to) (hunks_of (drop l.at l.fn.changes.items))) ≡ false;
  whole : hunks_of (take l.at l.changes.items) ++ map (moved_hunk l.from l.to) (hunks_of (drop l.at l.fn.changes.items))
      ≡ take l.first (hunks_of l.fn.changes.items) ++ map (moved_hunk l.from l.to) (hunks_of (drop l.first l.fn.changes.items));
}
