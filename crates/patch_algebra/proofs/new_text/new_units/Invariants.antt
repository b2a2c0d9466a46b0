use Rattle.std.proofs.Common.{◌≡◌, ◌++◌}
use Rattle.patch.specs.Fit.{applied}
use Rattle.patch_algebra.proofs.ApplyLemmas.{left_of}
use Rattle.patch_algebra.proofs.new_text.new_units.Given as goal

abbrev pub invariant-loop-change : goal.invariant-loop-change
invariant-loop-change l = l.units ++ left_of l.text l.read l.change-iterator ≡ applied l.patch.changes l.text
