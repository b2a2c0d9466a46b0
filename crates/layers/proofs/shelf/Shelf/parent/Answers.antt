use Rattle.std.proofs.Common.{◌≡◌, sym, subst, ap, ◌∙◌, Option}
use Rattle.std.specs.Prelude.{IsNone, ◌↔◌, ℕ}
use Rattle.places.specs.Placed.{parent_of}
use Rattle.places.specs.Table.{IsTable}
use Rattle.chains.specs.Layered.{depth_of}
use Rattle.layers.specs.Shelf.{HasDepths, layers_at}
use Rattle.layers.proofs.ShelfLemmas.{parent_is}
use Rattle.layers.proofs.shelf.Shelf.parent.Goals as goal

pub returns-clause-base : goal.returns-clause-base
returns-clause-base c =
    let s = c.args.self.now in
    let is = subst IsTable c.self.view_is c.places_are_sound.ensures in
    let deep = subst HasDepths c.self.view_is c.self.invariant in
    let same : c.parent.result ≡ parent_of s c.args.place = c.parent.ensures ∙ ap (λ t. parent_of t c.args.place) c.self.view_is in
    let P : Option ℕ → Type 0 = λ o. IsNone o ↔ (depth_of (layers_at s c.args.place) ≡ 1) in
    subst P (sym same) (parent_is s is deep c.args.place c.requires)
