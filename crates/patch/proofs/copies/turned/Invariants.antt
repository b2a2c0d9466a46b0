use Rattle.std.proofs.Common.{◌≡◌, take, map}
use Rattle.patch.specs.Hunk.{hunks_of, inverted}
use Rattle.patch.proofs.copies.turned.Given as goal

abbrev pub invariant-loop-change : goal.invariant-loop-change
invariant-loop-change l = hunks_of l.turned.items ≡ map inverted (hunks_of (take l.change-index l.changes))
