use Rattle.std.proofs.Common.{◌≡◌, ◌+◌, ◌≤◌, ◌^◌, length}
use Rattle.patch.specs.Fit.{applied}
use Rattle.patch_algebra.proofs.ApplyLemmas.{left_of}
use Rattle.patch_algebra.proofs.new_text.is_too_long.Given as goal

abbrev pub invariant-loop-change : goal.invariant-loop-change
invariant-loop-change l = record {
  counted : l.len + length (left_of l.text l.read l.change-iterator) ≡ length (applied l.patch.changes l.text);
  short : l.len ≤ 2 ^ 24;
}
