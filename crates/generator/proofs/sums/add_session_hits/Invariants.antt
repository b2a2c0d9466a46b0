use Rattle.std.proofs.Common.{◌≡◌, ◌+◌, sum_by, take}
use Rattle.generator.specs.Summary.{capped, hits_told}
use Rattle.generator.proofs.sums.add_session_hits.Given as goal

abbrev pub invariant-loop-reply : goal.invariant-loop-reply
invariant-loop-reply l = l.sum ≡ capped (l.before + sum_by hits_told (take l.reply-index l.replies))
