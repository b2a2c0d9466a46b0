use Rattle.std.proofs.Common.{◌≡◌, false, replicate}
use Rattle.transcript_check.proofs.check.unjudged.Given as goal

abbrev pub invariant-loop-i : goal.invariant-loop-i
invariant-loop-i l = l.right.items ≡ replicate l._i false
