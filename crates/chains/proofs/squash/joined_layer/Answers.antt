use Rattle.std.proofs.Common.{◌≡◌, ℕ, ◌+◌, [], List, length, drop, Option, refl, sym, ap, ◌∙◌, subst, arith}
use Rattle.std.proofs.lemmas.Result.{IfOk-weaker}
use Rattle.patch.specs.Tagged.{Tagged}
use Rattle.chains.specs.declared.spot.Spot.{Spot}
use Rattle.chains.specs.declared.overlay.Overlay.{Overlay}
use Rattle.chains.specs.Layered.{tags_since}
use Rattle.chains.specs.Overlay.{overlays_of, tags_above, text_of_all, end_of}
use Rattle.chains.specs.Spots.{spot_in}
use Rattle.chains.specs.Squash.{IsSquash}
use Rattle.chains.specs.Weaving.{Weaves}
use Rattle.chains.proofs.SquashLemmas.{weaves_start, weaves_next, weaves_end, can_weave, end_made}
use Rattle.chains.proofs.squash.joined_layer.Goals as goal

pub stretches-init : goal.stretches-init
stretches-init c = let base = c.args.base.now in let os = overlays_of c.args.held.now in record {
  place = refl;
  within = omega arith;
  weaves = weaves_start base os c.in_ok-weaver.weaver c.requires (omega (arith, c.len.ensures.value, c.len.ensures.short))
      (omega (arith, ap (λ (x : Spot). x.offset) c.end_above-end.ensures.value, c.end_above-end.ensures.short)) (c.in_ok-weaver.ensures.woven base) c.in_ok-weaver.ensures.start;
}

pub returns-then-puts_too_much : goal.returns-then-puts_too_much
returns-then-puts_too_much c = let base = c.args.base.now in let os = overlays_of c.args.held.now in let part = c.stretch_at-stretch.result.part in
    let whole : Tagged = tags_since base (tags_above base os) in
    c.puts_too_much.ensures base whole (drop (c.stretches.at.offset + length part) whole)
    (weaves_next base os part c.stretch_at-stretch.result.base c.stretches.at.offset c.stretches.weaver c.stretch_at-stretch.ensures.tags c.stretches.invariant.weaves) c.if-puts_too_much.true

pub weave_stretch-requires : goal.weave_stretch-requires
weave_stretch-requires c = let base = c.args.base.now in let os = overlays_of c.args.held.now in let part = c.stretch_at-stretch.result.part in
    can_weave base os part c.stretch_at-stretch.result.base c.stretches.at.offset c.stretches.weaver c.stretch_at-stretch.ensures.tags c.stretches.at c.spot_above-next.result
    (omega (arith, c.stretch_at-stretch.ensures.within, ap (λ (x : Spot). x.offset) c.end_above-end.ensures.value))
    c.stretches.invariant.place
    (c.spot_above-next.ensures ∙ ap (λ (n : ℕ). spot_in (text_of_all base os) (c.stretches.at.offset + n)) c.len-in-stretches.ensures.value)
    c.stretch_at-stretch.ensures.stands c.stretches.invariant.weaves

pub stretches-preserved : goal.stretches-preserved
stretches-preserved c = let base = c.args.base.now in let os = overlays_of c.args.held.now in let part = c.stretch_at-stretch.result.part in
    let whole : Tagged = tags_since base (tags_above base os) in
    let at : c.spot_above-next.result.offset ≡ c.stretches.at.offset + length part = omega (arith, ap (λ (x : Spot). x.offset) c.spot_above-next.ensures, c.len-in-stretches.ensures.value) in record {
      place = c.spot_above-next.ensures ∙ ap (spot_in (text_of_all base os)) (sym (ap (λ (x : Spot). x.offset) c.spot_above-next.ensures));
      within = omega (arith, at, c.stretch_at-stretch.ensures.within, ap (λ (x : Spot). x.offset) c.end_above-end.ensures.value);
      weaves = subst (λ (n : ℕ). Weaves base whole (drop n whole) c.weave_stretch.new.weaver) (sym at) (c.in_ok-weave_stretch.ensures whole (drop (c.stretches.at.offset + length part) whole)
          (weaves_next base os part c.stretch_at-stretch.result.base c.stretches.at.offset c.stretches.weaver c.stretch_at-stretch.ensures.tags c.stretches.invariant.weaves));
    }

pub finish_small-requires : goal.finish_small-requires
finish_small-requires c = let base = c.args.base.now in let os = overlays_of c.args.held.now in (
  base,
  tags_since base (tags_above base os),
  end_made base c.len.result c.extent.result c.len.ensures.value c.extent.ensures,
  weaves_end base os c.stretches.at.offset c.stretches.weaver (omega (arith, c.stretches-test.false, ap (λ (x : Spot). x.offset) c.end_above-end.ensures.value)) c.stretches.invariant.weaves,
)

pub returns : goal.returns
returns c = let base = c.args.base.now in let os = overlays_of c.args.held.now in
    let whole : Tagged = tags_since base (tags_above base os) in
    let below : Spot = record { offset = c.len.result; point = c.extent.result } in
    IfOk-weaker c.finish_small.result (λ (made : Option Overlay). (b : List ℕ) → (g : Tagged) → below ≡ end_of b → Weaves b g [] c.stretches.weaver → IsSquash b g made) (IsSquash base whole) (λ made finishes. finishes base whole
    (end_made base c.len.result c.extent.result c.len.ensures.value c.extent.ensures)
    (weaves_end base os c.stretches.at.offset c.stretches.weaver (omega (arith, c.stretches-test.false, ap (λ (x : Spot). x.offset) c.end_above-end.ensures.value)) c.stretches.invariant.weaves)) c.finish_small.ensures
