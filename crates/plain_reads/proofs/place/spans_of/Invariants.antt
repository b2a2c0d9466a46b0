use Rattle.std.proofs.Common.{◌≡◌, map, take, drop, IsCharBoundary}
use Rattle.machine.specs.Answers.{point_of_byte, span_of_bytes}
use Rattle.outer.specs.Matcher.{AreHitsFrom}
use Rattle.plain_reads.proofs.place.spans_of.Given as goal

abbrev pub invariant-loop-start : goal.invariant-loop-start
invariant-loop-start l = record {
  point : l.at.point ≡ point_of_byte l.text l.at.byte;
  boundary : IsCharBoundary l.text l.at.byte;
  left : AreHitsFrom l.text l.at.byte (drop l.start-index l.hits);
  spans : l.spans.items ≡ map (span_of_bytes l.text) (take l.start-index l.hits);
}
