use Rattle.std.proofs.Common.{length}
use Rattle.chains.proofs.held.+layers_in.Given as goal

abbrev pub decreases-layers_in : goal.decreases-layers_in
decreases-layers_in l = length l.held.now
