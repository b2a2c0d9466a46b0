use Rattle.std.proofs.Common.{◌≡◌, ◌∷◌, List, ℕ, ap, ◌∙◌}
use Rattle.std.specs.Arc.{arc_value}
use Rattle.std.proofs.lemmas.Result.{IfOk-weaker}
use Rattle.patch.specs.Tagged.{Tagged}
use Rattle.chains.specs.declared.overlay.Overlay.{Overlay}
use Rattle.chains.specs.Layered.{on_base}
use Rattle.chains.specs.Overlay.{overlays_of, tags_above, text_of_all}
use Rattle.chains.specs.Walking.{IsEdit}
use Rattle.chains.proofs.StackLemmas.{end_here, can_edit_newest}
use Rattle.chains.proofs.change.newest_edited.Goals as goal

pub stacked-requires-clause-laid : goal.stacked-requires-clause-laid
stacked-requires-clause-laid c = let b : List ℕ = arc_value c.args.base.now in let os : List Overlay = overlays_of c.args.top.below.now in
    let can : IsEdit (text_of_all b os) c.args.top.overlay.now c.end_above-end.result c.args.from c.args.to c.args.put.now = can_edit_newest b c.args.top.overlay.now os c.end_above-end.result c.args.from c.args.to c.args.put.now c.requires.laid
    (end_here b c.deref.result.now os c.end_above-end.result c.deref.ensures c.end_above-end.ensures.value) c.requires.change in
    (c.in_ok-newest.ensures.laid (text_of_all b os) can, c.requires.laid.1)

pub returns : goal.returns
returns c = let b : List ℕ = arc_value c.args.base.now in let os : List Overlay = overlays_of c.args.top.below.now in
    let can : IsEdit (text_of_all b os) c.args.top.overlay.now c.end_above-end.result c.args.from c.args.to c.args.put.now = can_edit_newest b c.args.top.overlay.now os c.end_above-end.result c.args.from c.args.to c.args.put.now c.requires.laid
    (end_here b c.deref.result.now os c.end_above-end.result c.deref.ensures c.end_above-end.ensures.value) c.requires.change in
    IfOk-weaker c.stacked.result _ _ (λ made is. is ∙ ap (λ (g : Tagged). on_base b (g ∷ tags_above b os)) (c.in_ok-newest.ensures.tags (text_of_all b os) can)) c.stacked.ensures
