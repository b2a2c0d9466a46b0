use Rattle.std.proofs.Common.{◌∙◌, sym, arith}
use Rattle.patch.specs.Hunk.{hunks_of}
use Rattle.patch.specs.ChangeList.{fault_of}
use Rattle.patch.proofs.ListLemmas.{fault_stops, fault_goes_on}
use Rattle.patch.proofs.check.first_fault.Goals as goal

pub returns-then-is_some : goal.returns-then-is_some
returns-then-is_some c = fault_stops c.args.changes.now c.loop-at.at c.index-changes-at.result c.loop-at.old_end c.loop-at.new_end c.fault_at-refusal.result (fault_of (hunks_of c.args.changes.now))
    (omega arith) c.index-changes-at.is c.fault_at-refusal.ensures (sym c.is_some.ensures ∙ c.if-is_some.true) c.loop-at.invariant

pub loop-at-preserved : goal.loop-at-preserved
loop-at-preserved c = fault_goes_on c.args.changes.now c.loop-at.at c.index-changes-at.result c.loop-at.old_end c.loop-at.new_end c.fault_at-refusal.result (fault_of (hunks_of c.args.changes.now))
    (omega arith) c.index-changes-at.is c.fault_at-refusal.ensures (sym c.is_some.ensures ∙ c.if-is_some.false) c.loop-at.invariant
