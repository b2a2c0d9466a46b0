use Rattle.std.proofs.Common.{arith}
use Rattle.std.specs.Arc.{arc_value}
use Rattle.chains.proofs.StackLemmas.{layers_seen}
use Rattle.chains.proofs.chain.Chain.size.Goals as goal

pub size_in-requires-clause-within : goal.size_in-requires-clause-within
size_in-requires-clause-within c = omega (arith, c.requires, layers_seen c.args.self.now (arc_value c.self.inside.base) c.as_slice.result.now c.self.inside.above.items c.as_slice.ensures.value c.self.view_is)
