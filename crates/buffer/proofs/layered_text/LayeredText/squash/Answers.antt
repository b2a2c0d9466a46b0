use Rattle.std.proofs.Common.{◌≡◌, ◌<◌, ◌≤◌, Option, subst, ap, ◌∙◌}
use Rattle.std.specs.Prelude.{MatchOption}
use Rattle.chains.specs.Layered.{Layered, depth_of, whole_text}
use Rattle.layers.specs.Unplaced.{Unplaced}
use Rattle.layers.specs.Shelf.{top_layers, squashed_top}
use Rattle.layers.proofs.LawLemmas.{squash_text}
use Rattle.buffer.proofs.layered_text.LayeredText.squash.Goals as goal

pub returns-in-Some : goal.returns-in-Some
returns-in-Some c =
    let s = c.self.inside.shelf in
    let P : Option Unplaced → Type 0 = λ o. MatchOption o (depth_of (top_layers s) ≤ 2) (λ n. (2 < depth_of (top_layers s)) × (n ≡ squashed_top s)) in
    let made = subst P c.in-Some.is c.in_ok-layer.ensures in
    ap (λ (v : Layered). whole_text v) c.put_on_top.ensures.top
    ∙ (ap (λ (n : Unplaced). whole_text n.layers) made.1
    ∙ (squash_text (top_layers s) ∙ c.self.view_is))
