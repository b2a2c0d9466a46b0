use Rattle.std.proofs.Common.{◌≡◌, take}
use Rattle.points.specs.MarkList.{last_end}
use Rattle.markers.proofs.index.MarkerIndex.last.Given as goal

abbrev pub invariant-loop-mark : goal.invariant-loop-mark
invariant-loop-mark l = l.last ≡ last_end (take l.mark-index l.mark-items)
