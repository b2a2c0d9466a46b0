use Rattle.std.proofs.Common.{◌≡◌, ◌∷◌, List, ℕ, ap, ◌∙◌, arith}
use Rattle.std.specs.Arc.{arc_value}
use Rattle.std.proofs.lemmas.Result.{IfOk-weaker}
use Rattle.patch.specs.Tagged.{Tagged, edited}
use Rattle.chains.specs.declared.spot.Spot.{Spot}
use Rattle.chains.specs.declared.overlay.Overlay.{Overlay}
use Rattle.chains.specs.Layered.{on_base}
use Rattle.chains.specs.Overlay.{overlays_of, tags_above, text_of_all, end_of, IsLaid}
use Rattle.chains.specs.Walking.{IsEdit}
use Rattle.chains.proofs.ChangeLemmas.{can_edit_unchanged}
use Rattle.chains.proofs.StackLemmas.{end_here}
use Rattle.chains.proofs.change.layer_added.Goals as goal

pub edited-requires : goal.edited-requires
edited-requires c = let b : List ℕ = arc_value c.args.base.now in let os : List Overlay = overlays_of c.args.held.now in let s : List ℕ = text_of_all b os in let o : Overlay = c.in_ok-unchanged.unchanged in
    let end : c.end_above-end.result ≡ end_of s = end_here b c.deref.result.now os c.end_above-end.result c.deref.ensures c.end_above-end.ensures.value in
    let laid : IsLaid s o = c.in_ok-unchanged.ensures.laid s end (omega (arith, ap (λ (x : Spot). x.offset) end, c.end_above-end.ensures.short)) in
    (s, can_edit_unchanged s o c.end_above-end.result c.args.from c.args.to c.args.put.now laid (c.in_ok-unchanged.ensures.tags s) end c.requires.change)

pub stacked-requires-clause-laid : goal.stacked-requires-clause-laid
stacked-requires-clause-laid c = let b : List ℕ = arc_value c.args.base.now in let os : List Overlay = overlays_of c.args.held.now in let s : List ℕ = text_of_all b os in let o : Overlay = c.in_ok-unchanged.unchanged in
    let end : c.end_above-end.result ≡ end_of s = end_here b c.deref.result.now os c.end_above-end.result c.deref.ensures c.end_above-end.ensures.value in
    let laid : IsLaid s o = c.in_ok-unchanged.ensures.laid s end (omega (arith, ap (λ (x : Spot). x.offset) end, c.end_above-end.ensures.short)) in
    (c.in_ok-newest.ensures.laid s (can_edit_unchanged s o c.end_above-end.result c.args.from c.args.to c.args.put.now laid (c.in_ok-unchanged.ensures.tags s) end c.requires.change), c.requires.laid)

pub returns : goal.returns
returns c = let b : List ℕ = arc_value c.args.base.now in let os : List Overlay = overlays_of c.args.held.now in let s : List ℕ = text_of_all b os in let o : Overlay = c.in_ok-unchanged.unchanged in
    let end : c.end_above-end.result ≡ end_of s = end_here b c.deref.result.now os c.end_above-end.result c.deref.ensures c.end_above-end.ensures.value in
    let laid : IsLaid s o = c.in_ok-unchanged.ensures.laid s end (omega (arith, ap (λ (x : Spot). x.offset) end, c.end_above-end.ensures.short)) in
    let can : IsEdit s o c.end_above-end.result c.args.from c.args.to c.args.put.now = can_edit_unchanged s o c.end_above-end.result c.args.from c.args.to c.args.put.now laid (c.in_ok-unchanged.ensures.tags s) end c.requires.change in
    IfOk-weaker c.stacked.result _ _ (λ made is. is ∙ ap (λ (g : Tagged). on_base b (g ∷ tags_above b os)) (c.in_ok-newest.ensures.tags s can ∙ ap (λ (g : Tagged). edited g c.args.from.offset c.args.to.offset c.args.put.now) (c.in_ok-unchanged.ensures.tags s))) c.stacked.ensures
