use Rattle.std.proofs.Common.{◌≡◌}
use Rattle.points.specs.Text.{utf16}
use Rattle.points.proofs.units.Units.from_str.Given as goal

abbrev pub invariant-loop-c : goal.invariant-loop-c
invariant-loop-c l = l.items.items ≡ utf16 l.yielded
