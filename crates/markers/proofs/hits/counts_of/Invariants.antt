use Rattle.std.proofs.Common.{◌≡◌, take}
use Rattle.points.specs.MarkList.{hit_counts}
use Rattle.markers.proofs.hits.counts_of.Given as goal

abbrev pub invariant-loop-mark : goal.invariant-loop-mark
invariant-loop-mark l = l.counts ≡ hit_counts l.splice (take l.mark-index l.marks)
