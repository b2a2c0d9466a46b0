use Rattle.std.proofs.Common.{◌≡◌, ℕ, ◌≤◌, List, Option, length, refl, sym, ap, subst, ◌∙◌, unwrap_or}
use Rattle.chains.specs.declared.spot.Spot.{Spot}
use Rattle.chains.specs.Spots.{spot_in}
use Rattle.chains.specs.Layered.{whole_text}
use Rattle.points.proofs.OffsetLemmas.{offset_of-at}
use Rattle.layers.proofs.BuildLemmas.{found_spot}
use Rattle.buffer.proofs.layered_text.LayeredText.spot_of.Goals as goal

pub returns-clause-value : goal.returns-clause-value
returns-clause-value c =
    let t : List ℕ = c.args.self.now in
    let same : whole_text c.look.result.now ≡ t = ap whole_text c.look.ensures ∙ c.self.view_is in
    let h = c.requires in
    let within = h.within in
    let spot = found_spot t (whole_text c.look.result.now) same c.args.point c.args.point refl c.spot_of.result c.spot_of.ensures h.offset within h.is in
    spot ∙ ap (λ (o : Option ℕ). spot_in t (unwrap_or o 0)) (sym (offset_of-at t c.args.point h.offset within h.is))

pub returns-clause-within : goal.returns-clause-within
returns-clause-within c =
    let t : List ℕ = c.args.self.now in
    let same : whole_text c.look.result.now ≡ t = ap whole_text c.look.ensures ∙ c.self.view_is in
    let h = c.requires in
    let within = h.within in
    let spot = found_spot t (whole_text c.look.result.now) same c.args.point c.args.point refl c.spot_of.result c.spot_of.ensures h.offset within h.is in
    subst (λ (s : Spot). s.offset ≤ length t) (sym spot) within
