use Rattle.std.proofs.Common.{List, [], length, ap, arith, Option}
use Rattle.chains.specs.declared.held.Held.{Held}
use Rattle.chains.proofs.LaidLemmas.{few_overlays}
use Rattle.chains.proofs.chain.Chain.try_clone.Goals as goal

pub share-requires : goal.share-requires
share-requires c = omega (arith, ap (λ (hs : List (Option Held)). length hs) c.new-above.ensures, few_overlays c.as_slice.result.now, c.as_slice.ensures.fits)
