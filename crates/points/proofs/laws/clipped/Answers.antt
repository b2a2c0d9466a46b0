use Rattle.points.proofs.ClipLemmas.{clipped_at}
use Rattle.points.proofs.laws.clipped.Goals as goal

pub returns-clause-within : goal.returns-clause-within
returns-clause-within c = (clipped_at c.args.units.now c.args.point).within

pub returns-clause-point : goal.returns-clause-point
returns-clause-point c = (clipped_at c.args.units.now c.args.point).point
