use Rattle.std.proofs.Common.{◌∙◌, sym, ap, subst}
use Rattle.places.specs.Placed.{quieted}
use Rattle.places.specs.Table.{IsTable}
use Rattle.places.proofs.ListLemmas.{whole_again}
use Rattle.places.proofs.MaskLemmas.{quieted_is}
use Rattle.places.proofs.table.Table.quiet.Goals as goal

pub invariant_of-self : goal.invariant_of-self
invariant_of-self g c =
    let whole = whole_again c.self.inside.entries.len c.take_hands.new.entries c.self.inside.entries.items (c.take_hands.auto.entries ∙ c.deref_mut.ensures.len) in
    let new = c.take_hands.ensures ∙ ap (quieted c.mask_of.result) c.deref_mut.ensures.value in
    (subst IsTable (sym (whole ∙ new)) (quieted_is c.self.inside.entries.items c.self.invariant.0 c.mask_of.result), c.self.invariant.1)
