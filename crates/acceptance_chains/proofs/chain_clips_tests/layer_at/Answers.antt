use Rattle.std.proofs.Common.{arith}
use Rattle.chains.specs.Layered.{whole_text}
use Rattle.chains.proofs.ChangeLemmas.{can_replace}
use Rattle.acceptance_chains.proofs.chain_clips_tests.layer_at.Goals as goal

pub add_layer-requires-clause-change : goal.add_layer-requires-clause-change
add_layer-requires-clause-change c = can_replace (whole_text c.args.chain.now) c.args.offset c.args.offset c.spot_at-spot.result c.spot_at-spot.result c.args.put.now c.spot_at-spot.ensures c.spot_at-spot.ensures (omega arith) (omega arith) (omega arith)
