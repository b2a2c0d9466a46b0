use Rattle.std.proofs.Common.{◌∙◌, sym, ap, subst}
use Rattle.places.specs.Placed.{narrowed, IsNarrow}
use Rattle.places.specs.Table.{IsTable}
use Rattle.places.proofs.ListLemmas.{whole_again}
use Rattle.places.proofs.MaskLemmas.{narrowed_is, narrow_is}
use Rattle.places.proofs.table.Table.narrow.Goals as goal

pub invariant_of-self : goal.invariant_of-self
invariant_of-self g c =
    let whole = whole_again c.self.inside.entries.len c.narrow_hands.new.entries c.self.inside.entries.items (c.narrow_hands.auto.entries ∙ c.deref_mut.ensures.len) in
    let new = c.narrow_hands.ensures ∙ ap narrowed c.deref_mut.ensures.value in
    (subst IsTable (sym (whole ∙ new)) (narrowed_is c.self.inside.entries.items c.self.invariant.0), c.self.invariant.1)

pub returns-clause-narrow : goal.returns-clause-narrow
returns-clause-narrow g c =
    let whole = whole_again c.self.inside.entries.len c.narrow_hands.new.entries c.self.inside.entries.items (c.narrow_hands.auto.entries ∙ c.deref_mut.ensures.len) in
    let new = c.narrow_hands.ensures ∙ ap narrowed c.deref_mut.ensures.value in
    subst IsNarrow (sym (whole ∙ new)) (narrow_is c.self.inside.entries.items c.self.invariant.0)
