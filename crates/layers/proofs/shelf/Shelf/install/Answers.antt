use Rattle.std.proofs.Common.{◌≡◌, sym, subst, ap, ◌∙◌}
use Rattle.places.specs.Placed.{top_id}
use Rattle.layers.specs.Shelf.{HasDepths}
use Rattle.layers.proofs.GroundLemmas.{ground_found}
use Rattle.layers.proofs.ShelfLemmas.{deep_topped}
use Rattle.layers.proofs.shelf.Shelf.install.Goals as goal

pub install-requires-clause-live : goal.install-requires-clause-live
install-requires-clause-live c =
    let s = c.self.inside.table in
    let on : c.layer.inside.on ≡ top_id s = ap (λ n. n.on) c.layer.view_is ∙ (c.requires.still ∙ ap top_id (sym c.self.view_is)) in
    (ground_found s c.places_are_sound.ensures c.layer.inside.layers c.layer.inside.on c.layer.invariant on c.ground_below-ground.result c.top-top.result c.depth.result c.top-top.ensures c.depth.ensures c.ground_below-ground.ensures).1.live

pub invariant_of-self : goal.invariant_of-self
invariant_of-self c =
    let s = c.self.inside.table in
    let on : c.layer.inside.on ≡ top_id s = ap (λ n. n.on) c.layer.view_is ∙ (c.requires.still ∙ ap top_id (sym c.self.view_is)) in
    let got = ground_found s c.places_are_sound.ensures c.layer.inside.layers c.layer.inside.on c.layer.invariant on c.ground_below-ground.result c.top-top.result c.depth.result c.top-top.ensures c.depth.ensures c.ground_below-ground.ensures in
    subst HasDepths (sym c.install.ensures.placed) (deep_topped s c.install.result c.ground_below-ground.result (record { layers = c.layer.inside.layers; version = c.layer.inside.version }) c.self.invariant got.1.deep)
