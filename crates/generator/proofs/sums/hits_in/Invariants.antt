use Rattle.std.proofs.Common.{◌≡◌, sum_by, take}
use Rattle.generator.specs.Summary.{capped, hits_told}
use Rattle.generator.proofs.sums.hits_in.Given as goal

abbrev pub invariant-loop-replies : goal.invariant-loop-replies
invariant-loop-replies l = l.sum ≡ capped (sum_by (sum_by hits_told) (take l.replies-index l.sessions))
