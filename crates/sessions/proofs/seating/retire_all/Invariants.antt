use Rattle.std.proofs.Common.{length}
use Rattle.sessions.proofs.seating.retire_all.Given as goal

abbrev pub decreases-loop-hand : goal.decreases-loop-hand
decreases-loop-hand l = length l.hands.items
