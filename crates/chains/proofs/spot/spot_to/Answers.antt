use Rattle.std.proofs.Common.{◌≡◌, ℕ, ◌≤◌, length, unwrap_or, Option, ap, ◌∙◌, arith}
use Rattle.points.proofs.OffsetLemmas.{offset_of-at}
use Rattle.chains.proofs.WalkLemmas.{found_spot}
use Rattle.chains.proofs.spot.spot_to.Goals as goal

pub overflow_cast-result : goal.overflow_cast-result
overflow_cast-result c =
    let at : c.unwrap_or-offset.result ≡ c.requires.offset = c.unwrap_or-offset.ensures ∙ ap (λ (o : Option ℕ). unwrap_or o c.len.result) (c.offset_of.ensures ∙ offset_of-at c.args.text.now c.args.point c.requires.offset c.requires.within c.requires.is) in
    omega (arith, at, c.requires.within, c.len.ensures.value, c.len.ensures.short)

pub returns : goal.returns
returns c = λ i within is.
    let at : c.unwrap_or-offset.result ≡ i = c.unwrap_or-offset.ensures ∙ ap (λ (o : Option ℕ). unwrap_or o c.len.result) (c.offset_of.ensures ∙ offset_of-at c.args.text.now c.args.point i within is) in
    found_spot c.unwrap_or-offset.result i c.args.point c.args.text.now at is
