use Rattle.std.proofs.Common.{length}
use Rattle.acceptance_shared.proofs.shared_buffer_tests.first_hands.Given as goal

abbrev pub decreases-loop-hand : goal.decreases-loop-hand
decreases-loop-hand g l = length l.hands.items
