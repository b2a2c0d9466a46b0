use Rattle.std.proofs.Common.{◌≡◌, ℕ, sym, subst, ap, ◌∙◌}
use Rattle.std.specs.Prelude.{IsTrue}
use Rattle.places.specs.Placed.{is_live}
use Rattle.chains.specs.Layered.{whole_text}
use Rattle.layers.specs.declared.versioned.Versioned.{Versioned}
use Rattle.layers.specs.Shelf.{Shelved, top_text}
use Rattle.layers.proofs.HandLemmas.{noted_top}
use Rattle.layers.proofs.ShelfLemmas.{top_live}
use Rattle.buffer.proofs.layered_text.LayeredText.hold.Goals as goal

pub note-requires-clause-live : goal.note-requires-clause-live
note-requires-clause-live c = subst (λ (p : ℕ). IsTrue (is_live c.self.inside.shelf p)) (sym c.top.ensures) (top_live c.self.inside.shelf c.places_are_sound.ensures.table)

pub returns : goal.returns
returns c =
    ap (λ (s : Shelved). top_text s) c.note.ensures
    ∙ (ap (λ (v : Versioned). whole_text v.layers) (noted_top c.self.inside.shelf _ _) ∙ c.self.view_is)
