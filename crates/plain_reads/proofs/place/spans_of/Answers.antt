use Rattle.std.proofs.lemmas.Str.{IsCharBoundary-start}
use Rattle.plain_reads.proofs.PlaceLemmas.{point_of_start, next_hit}
use Rattle.plain_reads.proofs.place.spans_of.Goals as goal

pub loop-start-init : goal.loop-start-init
loop-start-init c = record {
  point = point_of_start c.args.text.now;
  boundary = IsCharBoundary-start c.args.text.now c.utf8.text;
  left = c.requires.sound;
  spans = c.in_ok-spans.ensures.items;
}

pub moved-first-requires-clause-order : goal.moved-first-requires-clause-order
moved-first-requires-clause-order c = (next_hit _ _ _ _ c.loop-start-test.true c.loop-start.invariant.left).0

pub moved-first-requires-clause-end : goal.moved-first-requires-clause-end
moved-first-requires-clause-end c = (next_hit _ _ _ _ c.loop-start-test.true c.loop-start.invariant.left).2

pub moved-first-requires-clause-point : goal.moved-first-requires-clause-point
moved-first-requires-clause-point c = c.loop-start.invariant.point
