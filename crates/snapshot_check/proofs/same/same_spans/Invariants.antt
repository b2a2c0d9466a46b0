use Rattle.std.proofs.Common.{◌≡◌, length, drop}
use Rattle.snapshot_check.proofs.same.same_spans.Given as goal

abbrev pub invariant-loop-i : goal.invariant-loop-i
invariant-loop-i l = record { long : length l.a ≡ length l.b; so_far : drop l.i l.a ≡ drop l.i l.b → l.a ≡ l.b }
