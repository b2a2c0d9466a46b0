use Rattle.std.proofs.Common.{take}
use Rattle.std.specs.List.{All}
use Rattle.points.specs.declared.limits.TheConstants.{MAX_COORD}
use Rattle.points.specs.MarkList.{MarkIsWithin, all_moved}
use Rattle.markers.proofs.index.MarkerIndex.fits.Given as goal

abbrev pub invariant-loop-mark : goal.invariant-loop-mark
invariant-loop-mark l = All (MarkIsWithin MAX_COORD) (all_moved l.splice (take l.mark-index l.mark-items))
