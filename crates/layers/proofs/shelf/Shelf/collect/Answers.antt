use Rattle.std.proofs.Common.{sym, subst, arith}
use Rattle.layers.specs.Shelf.{HasDepths}
use Rattle.layers.proofs.ShelfLemmas.{deep_collected, few_places}
use Rattle.layers.proofs.shelf.Shelf.collect.Goals as goal

pub overflow_cast-result : goal.overflow_cast-result
overflow_cast-result c = omega (arith, c.collect.ensures.freed, few_places c.self.inside.table c.places_are_sound.ensures)

pub invariant_of-self : goal.invariant_of-self
invariant_of-self c = subst HasDepths (sym c.collect.ensures.kept) (deep_collected c.self.inside.table c.self.invariant)
