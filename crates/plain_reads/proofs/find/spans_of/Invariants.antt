use Rattle.std.proofs.Common.{◌≡◌, map, take}
use Rattle.machine.specs.Answers.{span_at}
use Rattle.plain_reads.proofs.find.spans_of.Given as goal

abbrev pub invariant-loop-start : goal.invariant-loop-start
invariant-loop-start l = l.spans.items ≡ map (span_at l.text l.units) (take l.start-index l.starts)
