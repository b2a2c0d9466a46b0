use Rattle.std.proofs.Common.{◌≡◌, ◌++◌, drop, take}
use Rattle.script.specs.Rules.{is_again}
use Rattle.script.proofs.saves.is_again.Given as goal

abbrev pub invariant-loop-i : goal.invariant-loop-i
invariant-loop-i l = is_again (l.there ++ take l.i l.names) (drop l.i l.names) ≡ is_again l.there l.names
