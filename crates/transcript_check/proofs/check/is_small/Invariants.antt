use Rattle.std.proofs.Common.{◌≡◌, ◌-◌, ◌^◌, min, take, length, map}
use Rattle.std.specs.Prelude.{sum}
use Rattle.transcript_check.proofs.check.is_small.Given as goal

abbrev pub invariant-loop-i : goal.invariant-loop-i
invariant-loop-i l = l.total ≡ min (sum (map length (take l.i l.sessions))) (2 ^ 64 - 1)
