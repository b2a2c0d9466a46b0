use Rattle.std.proofs.Common.{◌≡◌, ◌+◌, sum_by, take}
use Rattle.generator.specs.Summary.{capped, hits_of}
use Rattle.generator.proofs.sums.add_hits.Given as goal

abbrev pub invariant-loop-answer : goal.invariant-loop-answer
invariant-loop-answer l = l.sum ≡ capped (l.before + sum_by hits_of (take l.answer-index l.answers))
