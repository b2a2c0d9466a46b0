use Rattle.std.proofs.Common.{sym, subst}
use Rattle.layers.specs.Shelf.{HasDepths}
use Rattle.layers.proofs.ShelfLemmas.{deep_narrowed}
use Rattle.layers.proofs.shelf.Shelf.narrow.Goals as goal

pub invariant_of-self : goal.invariant_of-self
invariant_of-self c = subst HasDepths (sym c.narrow.ensures.list) (deep_narrowed c.self.inside.table c.self.invariant)
