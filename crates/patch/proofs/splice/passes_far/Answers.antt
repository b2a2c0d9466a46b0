use Rattle.patch.specs.Hunk.{hunks_of}
use Rattle.patch.proofs.SpliceSteps.{near_patch}
use Rattle.patch.proofs.splice.passes_far.Goals as goal

pub any_moved_far-requires : goal.any_moved_far-requires
any_moved_far-requires c = (c.requires.1, near_patch (hunks_of c.args.changes.now) c.requires.0)
