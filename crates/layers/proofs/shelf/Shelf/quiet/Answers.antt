use Rattle.std.proofs.Common.{sym, subst}
use Rattle.places.specs.Placed.{hand_mask}
use Rattle.layers.specs.Shelf.{HasDepths}
use Rattle.layers.proofs.ShelfLemmas.{deep_quieted}
use Rattle.layers.proofs.shelf.Shelf.quiet.Goals as goal

pub invariant_of-self : goal.invariant_of-self
invariant_of-self c = subst HasDepths (sym c.quiet.ensures) (deep_quieted c.self.inside.table (hand_mask c.args.hand) c.self.invariant)
