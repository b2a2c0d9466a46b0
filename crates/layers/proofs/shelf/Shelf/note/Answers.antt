use Rattle.std.proofs.Common.{sym, subst}
use Rattle.layers.specs.Shelf.{HasDepths}
use Rattle.layers.proofs.ShelfLemmas.{deep_noted}
use Rattle.layers.proofs.shelf.Shelf.note.Goals as goal

pub invariant_of-self : goal.invariant_of-self
invariant_of-self c = subst HasDepths (sym c.note.ensures) (deep_noted c.self.inside.table c.args.place c.args.mask c.self.invariant)
