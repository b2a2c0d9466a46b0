use Rattle.std.proofs.Common.{ap, ◌∙◌}
use Rattle.places.specs.Placed.{top_id}
use Rattle.layers.proofs.ShelfLemmas.{top_depth}
use Rattle.layers.proofs.BuildLemmas.{top_shallow}
use Rattle.layers.proofs.shelf.Shelf.young_top.Goals as goal

pub returns-then-on-clause-shallow : goal.returns-then-on-clause-shallow
returns-then-on-clause-shallow c = top_shallow c.args.self.now c.places_are_sound.ensures.table c.places_are_sound.ensures.depths

pub returns-else-on-clause-deep : goal.returns-else-on-clause-deep
returns-else-on-clause-deep c = ap (λ t. t.depth) (c.top_id-on.ensures ∙ ap top_id c.self.view_is) ∙ top_depth c.args.self.now c.places_are_sound.ensures.table c.places_are_sound.ensures.depths

pub returns-else-on-clause-shallow : goal.returns-else-on-clause-shallow
returns-else-on-clause-shallow c = top_shallow c.args.self.now c.places_are_sound.ensures.table c.places_are_sound.ensures.depths
