use Rattle.points.proofs.OffsetLemmas.{offset_of-some, offset_of-at}
use Rattle.points.proofs.laws.found.Goals as goal

pub returns : goal.returns
returns c = (offset_of-some c.args.units.now c.args.point c.args.offset, λ at. offset_of-at c.args.units.now c.args.point c.args.offset at.0 at.1)
