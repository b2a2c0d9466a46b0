use Rattle.std.proofs.Common.{◌≡◌, ap, sym, arith}
use Rattle.chains.specs.declared.spot.Spot.{Spot}
use Rattle.acceptance_chains.proofs.chains_tests.is_found.Goals as goal

pub spot_of-requires : goal.spot_of-requires
spot_of-requires c = record { offset = c.args.offset; within = omega arith; is = sym (ap (λ (x : Spot). x.point) c.spot_at-spot.ensures) }
