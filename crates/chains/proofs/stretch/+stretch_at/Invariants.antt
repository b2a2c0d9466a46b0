use Rattle.std.proofs.Common.{length}
use Rattle.chains.proofs.stretch.+stretch_at.Given as goal

abbrev pub decreases-stretch_at : goal.decreases-stretch_at
decreases-stretch_at l = length l.held.now
