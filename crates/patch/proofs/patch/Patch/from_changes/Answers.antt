use Rattle.std.proofs.Common.{◌≡◌, ◌∙◌, List, None, sym, ap, refl}
use Rattle.patch.specs.Hunk.{hunks_of}
use Rattle.patch.specs.ChangeList.{fault_of}
use Rattle.patch.specs.declared.change.Change.{Change}
use Rattle.patch.proofs.SortLemmas.{ordered_all}
use Rattle.patch.proofs.patch.Patch.from_changes.Goals as goal

no_fault : (c : goal.In_default) → fault_of (hunks_of c.args.changes.items) ≡ None
no_fault c = ap (λ (cs : List Change). fault_of (hunks_of cs)) (sym c.as_slice.ensures.value) ∙ (sym c.first_fault.ensures ∙ c.in_default.is)

pub invariant_of-result : goal.invariant_of-result
invariant_of-result c = (no_fault c, ordered_all c.args.changes.items)

pub returns : goal.returns
returns c = (refl, (no_fault c, ordered_all c.args.changes.items))
