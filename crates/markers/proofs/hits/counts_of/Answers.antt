use Rattle.std.proofs.Common.{arith}
use Rattle.markers.proofs.HitLemmas.{CountsWithin, counts_more, counts_within}
use Rattle.markers.proofs.hits.counts_of.Goals as goal

within : (c : goal.After-counts_with-arg-1) → CountsWithin c.loop-mark.mark-index c.loop-mark.counts
within c = counts_within c.args.splice c.args.marks.now c.loop-mark.mark-index c.loop-mark.counts c.loop-mark.invariant

pub counts_with-counts-requires-clause-touch : goal.counts_with-counts-requires-clause-touch
counts_with-counts-requires-clause-touch c = omega (arith, (within c).touch)

pub counts_with-counts-requires-clause-inside : goal.counts_with-counts-requires-clause-inside
counts_with-counts-requires-clause-inside c = omega (arith, (within c).inside)

pub counts_with-counts-requires-clause-overlap : goal.counts_with-counts-requires-clause-overlap
counts_with-counts-requires-clause-overlap c = omega (arith, (within c).overlap)

pub counts_with-counts-requires-clause-surround : goal.counts_with-counts-requires-clause-surround
counts_with-counts-requires-clause-surround c = omega (arith, (within c).surround)

pub loop-mark-preserved : goal.loop-mark-preserved
loop-mark-preserved c = counts_more c.args.splice c.args.marks.now c.loop-mark.mark-index _ c.loop-mark.counts c.counts_with-counts.result c.loop-mark-test.true c.loop-mark.invariant
    c.counts_with-counts.ensures.touch c.counts_with-counts.ensures.inside c.counts_with-counts.ensures.overlap c.counts_with-counts.ensures.surround
