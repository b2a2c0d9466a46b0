use Rattle.std.proofs.Common.{length}
use Rattle.chains.proofs.held.+share.Given as goal

abbrev pub decreases-share : goal.decreases-share
decreases-share l = length l.held.now
