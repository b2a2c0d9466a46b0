use Rattle.std.proofs.Common.{◌≡◌, take}
use Rattle.points.specs.MarkList.{all_moved}
use Rattle.plain_replay.proofs.movement.all_moved.Given as goal

abbrev pub invariant-loop-mark : goal.invariant-loop-mark
invariant-loop-mark l = l.all.items ≡ all_moved l.splice (take l.mark-index l.marks)
