use Rattle.std.proofs.Common.{arith}
use Rattle.std.specs.Arc.{arc_value}
use Rattle.chains.proofs.StackLemmas.{layers_seen}
use Rattle.chains.proofs.chain.Chain.add_layer.Goals as goal

pub layer_added-requires-clause-few : goal.layer_added-requires-clause-few
layer_added-requires-clause-few c = omega (arith, c.requires.room, layers_seen c.args.self.now (arc_value c.self.inside.base) c.as_slice.result.now c.self.inside.above.items c.as_slice.ensures.value c.self.view_is)
