use Rattle.std.proofs.Common.{◌≡◌, ◌++◌, map, take}
use Rattle.chains.specs.Moving.{moved_cut}
use Rattle.chains.proofs.moving.move_cuts.Given as goal

abbrev pub invariant-loop-cut : goal.invariant-loop-cut
invariant-loop-cut l = l.into.items ≡ l.initial.into.items ++ map (moved_cut l.by) (take l.cut-index l.cuts)
