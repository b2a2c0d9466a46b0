use Rattle.std.proofs.Common.{length, ap, arith}
use Rattle.chains.specs.declared.overlay.Overlay.{Overlay}
use Rattle.chains.specs.Overlay.{overlays_of, text_of_all}
use Rattle.chains.proofs.StretchLemmas.{laid_newest, laid_below}
use Rattle.chains.proofs.StackLemmas.{size_newest, size_older}
use Rattle.chains.proofs.shape.+size_in.Goals as goal

pub returns-then-layer-layers_in : goal.returns-then-layer-layers_in
returns-then-layer-layers_in t c = λ base laid. let o : Overlay = c.in-Some.top.overlay.now in
    size_newest base (overlays_of c.args.held.now) o (overlays_of c.in-Some.top.below.now) c.args.layer c.size.result c.in-Some.ensures.top
    (omega (arith, c.requires.within, ap length c.in-Some.ensures.top, c.layers_in.ensures.value, c.if-layer-layers_in.true))
    (c.size.ensures (text_of_all base (overlays_of c.in-Some.top.below.now)) (laid_newest base (overlays_of c.args.held.now) o (overlays_of c.in-Some.top.below.now) c.in-Some.ensures.top laid))

pub returns-else-layer-layers_in : goal.returns-else-layer-layers_in
returns-else-layer-layers_in t c = λ base laid. let o : Overlay = c.in-Some.top.overlay.now in
    size_older base (overlays_of c.args.held.now) o (overlays_of c.in-Some.top.below.now) c.args.layer c.size_in.result c.in-Some.ensures.top
    (omega (arith, c.layers_in.ensures.value, c.if-layer-layers_in.false))
    (c.size_in.ensures base (laid_below base (overlays_of c.args.held.now) o (overlays_of c.in-Some.top.below.now) c.in-Some.ensures.top laid))
