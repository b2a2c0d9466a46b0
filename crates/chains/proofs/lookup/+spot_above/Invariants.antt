use Rattle.std.proofs.Common.{length}
use Rattle.chains.proofs.lookup.+spot_above.Given as goal

abbrev pub decreases-spot_above : goal.decreases-spot_above
decreases-spot_above l = length l.held.now
