use Rattle.std.proofs.Common.{length}
use Rattle.plain_replay.proofs.steps.+redone.Given as goal

abbrev pub decreases-redone : goal.decreases-redone
decreases-redone l = length l.changes.now
