use Rattle.std.proofs.Common.{◌≡◌, ℕ, ◌+◌, List, length, slice_range, Option, ap, sym, ◌∙◌}
use Rattle.std.specs.Arc.{arc_value}
use Rattle.patch.specs.Tagged.{Tagged}
use Rattle.chains.specs.declared.held.Held.{Held}
use Rattle.chains.specs.Layered.{Layered, tags_since}
use Rattle.chains.specs.Overlay.{overlays_of, tags_above}
use Rattle.chains.proofs.StretchLemmas.{stretch_units}
use Rattle.chains.proofs.chain.Chain.stretch.Goals as goal

pub returns-clause-units : goal.returns-clause-units
returns-clause-units c =
    let i : ℕ = c.args.at in
    let j : ℕ = c.args.at + length c.stretch_at.result.part in
    stretch_units c.args.self.now.base c.args.self.now.above c.stretch_at.result.part c.stretch_at.result.base i j
    (ap (λ (v : Layered). slice_range (tags_since v.base v.above) i j) (sym c.self.view_is)
    ∙ (ap (λ (b : List ℕ). slice_range (tags_since b (tags_above b (overlays_of c.self.inside.above.items))) i j) (sym c.deref.ensures)
    ∙ (ap (λ (xs : List (Option Held)). slice_range (tags_since c.deref.result.now (tags_above c.deref.result.now (overlays_of xs))) i j) (sym c.as_slice.ensures.value)
    ∙ c.stretch_at.ensures.tags)))
