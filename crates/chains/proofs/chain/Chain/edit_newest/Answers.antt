use Rattle.std.proofs.Common.{arith}
use Rattle.chains.proofs.LaidLemmas.{few_overlays}
use Rattle.chains.proofs.chain.Chain.edit_newest.Goals as goal

pub newest_edited-requires-clause-few : goal.newest_edited-requires-clause-few
newest_edited-requires-clause-few c = omega (arith, few_overlays c.in-Some.top.below.now, c.in-Some.ensures.fewer, c.as_slice.ensures.fits)
