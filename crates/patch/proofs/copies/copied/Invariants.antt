use Rattle.std.proofs.Common.{◌≡◌, take}
use Rattle.patch.specs.Hunk.{hunks_of}
use Rattle.patch.proofs.copies.copied.Given as goal

abbrev pub invariant-loop-change : goal.invariant-loop-change
invariant-loop-change l = hunks_of l.copies.items ≡ hunks_of (take l.change-index l.changes)
