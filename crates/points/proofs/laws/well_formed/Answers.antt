use Rattle.std.proofs.Common.{arith}
use Rattle.points.proofs.MendingLemmas.{well_formed-is, is_well_formed-true}
use Rattle.points.proofs.laws.well_formed.Goals as goal

pub returns : goal.returns
returns c = (well_formed-is c.args.units.now (λ k. omega (arith, c.type_inv.units k)), is_well_formed-true c.args.units.now)
