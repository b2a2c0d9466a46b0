use Rattle.std.proofs.Common.{◌≡◌, sym, subst, ap, ◌∙◌}
use Rattle.std.specs.Prelude.{IsTrue, ℕ}
use Rattle.places.specs.Placed.{is_live, top_id}
use Rattle.places.specs.Table.{IsTable}
use Rattle.layers.proofs.ShelfLemmas.{top_live}
use Rattle.layers.proofs.shelf.Shelf.newest.Goals as goal

pub placed-requires : goal.placed-requires
placed-requires c =
    let is = subst IsTable c.self.view_is c.places_are_sound.ensures in
    let at : c.top.result ≡ (top_id c.args.self.now).place = c.top.ensures ∙ ap (λ s. (top_id s).place) c.self.view_is in
    let P : ℕ → Type 0 = λ p. IsTrue (is_live c.args.self.now p) in
    subst P (sym at) (top_live c.args.self.now is)
