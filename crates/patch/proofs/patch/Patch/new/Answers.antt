use Rattle.std.proofs.Common.{ap}
use Rattle.patch.specs.Hunk.{hunks_of}
use Rattle.patch.proofs.StandLemmas.{none_stand}
use Rattle.patch.proofs.patch.Patch.new.Goals as goal

pub returns-clause-stands : goal.returns-clause-stands
returns-clause-stands c = none_stand (hunks_of c.new.result.items) (ap hunks_of c.new.ensures.items)
