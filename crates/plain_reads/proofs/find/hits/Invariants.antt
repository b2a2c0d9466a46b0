use Rattle.std.proofs.Common.{◌≡◌, ◌++◌}
use Rattle.points.specs.Literal.{hits}
use Rattle.plain_reads.specs.Searching.{left_at}
use Rattle.plain_reads.proofs.find.hits.Given as goal

abbrev pub invariant-loop-at : goal.invariant-loop-at
invariant-loop-at l = l.starts.items ++ left_at l.units l.needle l.at l.skip ≡ hits l.units l.needle
