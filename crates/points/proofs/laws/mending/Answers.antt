use Rattle.std.proofs.Common.{arith}
use Rattle.points.proofs.MendingLemmas.{mended_is, well_formed-mended, mended-well_formed, mended_units, utf16_of-text_of}
use Rattle.points.proofs.laws.mending.Goals as goal

pub returns-clause-offsets : goal.returns-clause-offsets
returns-clause-offsets c = (mended_is c.args.units.now (λ k. omega (arith, c.type_inv.units k))).same_length

pub returns-clause-well_formed : goal.returns-clause-well_formed
returns-clause-well_formed c = well_formed-mended c.args.units.now (λ k. omega (arith, c.type_inv.units k))

pub returns-clause-kept : goal.returns-clause-kept
returns-clause-kept c = mended-well_formed c.args.units.now

pub returns-clause-read : goal.returns-clause-read
returns-clause-read c = utf16_of-text_of c.args.units.now (λ k. omega (arith, c.type_inv.units k))

pub returns-clause-units : goal.returns-clause-units
returns-clause-units c = mended_units c.args.units.now (λ k. omega (arith, c.type_inv.units k))
