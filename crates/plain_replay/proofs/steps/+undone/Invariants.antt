use Rattle.std.proofs.Common.{length}
use Rattle.plain_replay.proofs.steps.+undone.Given as goal

abbrev pub decreases-undone : goal.decreases-undone
decreases-undone l = length l.changes.now
