use Rattle.std.proofs.Common.{◌∙◌, map, sym, ap, subst}
use Rattle.places.specs.Placed.{noted}
use Rattle.places.specs.Table.{IsTable}
use Rattle.places.proofs.ListLemmas.{whole_again}
use Rattle.places.proofs.MaskLemmas.{noted_is}
use Rattle.places.proofs.table.Table.note.Goals as goal

pub invariant_of-self : goal.invariant_of-self
invariant_of-self g c =
    let whole = whole_again c.self.inside.entries.len c.add_hands.new.entries c.self.inside.entries.items (c.add_hands.auto.entries ∙ c.deref_mut.ensures.len) in
    let new = c.add_hands.ensures ∙ ap (map (noted c.args.place c.args.hands)) c.deref_mut.ensures.value in
    (subst IsTable (sym (whole ∙ new)) (noted_is c.self.inside.entries.items c.self.invariant.0 c.args.place c.args.hands c.requires), c.self.invariant.1)
