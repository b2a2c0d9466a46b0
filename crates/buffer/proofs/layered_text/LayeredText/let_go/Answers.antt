use Rattle.std.proofs.Common.{◌≡◌, ap, ◌∙◌}
use Rattle.places.specs.Placed.{hand_mask}
use Rattle.chains.specs.Layered.{whole_text}
use Rattle.layers.specs.declared.versioned.Versioned.{Versioned}
use Rattle.layers.specs.Shelf.{Shelved, top_text}
use Rattle.layers.proofs.HandLemmas.{quieted_top}
use Rattle.buffer.proofs.layered_text.LayeredText.let_go.Goals as goal

pub returns : goal.returns
returns c =
    ap (λ (s : Shelved). top_text s) c.quiet.ensures
    ∙ (ap (λ (v : Versioned). whole_text v.layers) (quieted_top c.self.inside.shelf (hand_mask c.args.hand)) ∙ c.self.view_is)
