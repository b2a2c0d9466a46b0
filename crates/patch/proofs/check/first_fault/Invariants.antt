use Rattle.std.proofs.Common.{◌≡◌, drop}
use Rattle.patch.specs.Hunk.{hunks_of}
use Rattle.patch.specs.ChangeList.{fault_from, fault_of}
use Rattle.patch.proofs.check.first_fault.Given as goal

abbrev pub invariant-loop-at : goal.invariant-loop-at
invariant-loop-at l = fault_from l.at l.old_end l.new_end (hunks_of (drop l.at l.changes)) ≡ fault_of (hunks_of l.changes)
