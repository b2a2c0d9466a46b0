use Rattle.points.specs.declared.limits.TheConstants.{MAX_COORD}
use Rattle.plain_replay.proofs.MoveLemmas.{within_at}
use Rattle.plain_replay.proofs.movement.all_moved.Goals as goal

pub moved-requires : goal.moved-requires
moved-requires c = within_at MAX_COORD c.args.splice c.args.marks.now c.loop-mark.mark-index _ c.loop-mark-test.true c.requires
