use Rattle.std.proofs.Common.{◌≡◌, ◌++◌, drop}
use Rattle.points.specs.Point.{origin}
use Rattle.patch.specs.Hunk.{hunks_of}
use Rattle.patch.specs.Stretches.{parts_seen, parts_of}
use Rattle.patch.specs.MovedOld.{kept_of}
use Rattle.patch.proofs.old_text.kept_stretches.Given as goal

abbrev pub invariant-loop-change : goal.invariant-loop-change
invariant-loop-change l = parts_seen l.kept.items ++ parts_of l.end (kept_of l.start l.old_end l.new_end (hunks_of (drop l.change-index l.changes))) ≡ parts_of origin (kept_of l.start l.old_end l.new_end (hunks_of l.changes))
