use Rattle.std.proofs.Common.{◌≡◌, ℕ, ◌+◌, List, length, ap, sym, ◌∙◌, Option}
use Rattle.std.specs.Arc.{arc_value}
use Rattle.chains.specs.declared.held.Held.{Held}
use Rattle.chains.specs.Layered.{depth_of}
use Rattle.chains.specs.Overlay.{overlays_of}
use Rattle.chains.proofs.LaidLemmas.{length_above}
use Rattle.chains.proofs.chain.Chain.depth.Goals as goal

pub returns : goal.returns
returns c = ap (λ (n : ℕ). 1 + n) (c.layers_in.ensures.value ∙ (ap (λ (xs : List (Option Held)). length (overlays_of xs)) c.as_slice.ensures.value
    ∙ sym (length_above (arc_value c.self.inside.base) (overlays_of c.self.inside.above.items)))) ∙ ap depth_of c.self.view_is
