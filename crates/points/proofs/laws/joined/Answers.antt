use Rattle.points.proofs.ExtentLemmas.{extent-append}
use Rattle.points.proofs.laws.joined.Goals as goal

pub returns : goal.returns
returns c = extent-append c.args.a.now c.args.b.now
