use Rattle.std.proofs.Common.{◌≡◌, take}
use Rattle.points.specs.MarkList.{ids_where}
use Rattle.markers.specs.Wanted.{passes}
use Rattle.markers.proofs.wanted.ids_where.Given as goal

abbrev pub invariant-loop-mark : goal.invariant-loop-mark
invariant-loop-mark l = l.ids.items ≡ ids_where (passes l.wanted) (take l.mark-index l.marks)
