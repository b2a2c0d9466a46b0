use Rattle.std.proofs.Common.{length}
use Rattle.plain_replay.proofs.progress.+members.Given as goal

abbrev pub decreases-members : goal.decreases-members
decreases-members l = length l.edits.now
