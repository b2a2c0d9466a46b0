use Rattle.std.proofs.Common.{◌≡◌, ◌++◌, [], drop}
use Rattle.points.specs.Point.{origin}
use Rattle.points.specs.Distance.{traverse_capped}
use Rattle.patch.specs.Hunk.{hunks_of}
use Rattle.patch.specs.Stretches.{parts_seen, laid_by, laid_behind}
use Rattle.patch.proofs.stretch.laid.Given as goal

abbrev pub invariant-loop-stretch : goal.invariant-loop-stretch
invariant-loop-stretch l = hunks_of l.changes.items ++ laid_behind l.last (parts_seen (drop l.stretch-index l.stretches)) ≡ laid_by traverse_capped origin origin [] [] (parts_seen l.stretches)
