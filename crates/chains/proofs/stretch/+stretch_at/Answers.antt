use Rattle.std.proofs.Common.{◌≡◌, ℕ, ◌+◌, ◌<◌, ◌≤◌, List, length, ap, arith}
use Rattle.chains.specs.declared.spot.Spot.{Spot}
use Rattle.chains.specs.Overlay.{overlays_of, text_of_all}
use Rattle.chains.proofs.LaidLemmas.{end_of_newest}
use Rattle.chains.proofs.StretchLemmas.{laid_newest, text_short, none_tags, put_tags, kept_tags}
use Rattle.chains.proofs.stretch.+stretch_at.Goals as goal

pub standing-requires-clause-within : goal.standing-requires-clause-within
standing-requires-clause-within t c = let end = end_of_newest c.args.base.now (overlays_of c.args.held.now) c.in-Some.top.overlay.now (overlays_of c.in-Some.top.below.now) c.in-Some.ensures.top c.requires.laid in
    omega (arith, ap (λ (x : Spot). x.offset) end.0, c.requires.within)

pub overflow_add-end : goal.overflow_add-end
overflow_add-end t c = let laid = (laid_newest c.args.base.now (overlays_of c.args.held.now) c.in-Some.top.overlay.now (overlays_of c.in-Some.top.below.now) c.in-Some.ensures.top c.requires.laid) in
    let stands = c.in-Put.ensures (text_of_all c.args.base.now (overlays_of c.in-Some.top.below.now)) laid in omega (arith, stands.2, text_short (text_of_all c.args.base.now (overlays_of c.in-Some.top.below.now)) c.in-Some.top.overlay.now laid)

pub returns-in-None-clause-tags : goal.returns-in-None-clause-tags
returns-in-None-clause-tags t c = none_tags c.args.base.now (overlays_of c.args.held.now) c.part.result c.args.at c.args.to c.in-None.ensures.top c.part.ensures c.requires.order c.requires.within

pub returns-in-Put-clause-tags : goal.returns-in-Put-clause-tags
returns-in-Put-clause-tags t c = put_tags c.args.base.now (overlays_of c.args.held.now) c.in-Some.top.overlay.now (overlays_of c.in-Some.top.below.now) c.in-Some.ensures.top c.part-in-Put.result c.args.at c.args.to c.in-Put.from c.in-Put.len
    (c.in-Put.ensures (text_of_all c.args.base.now (overlays_of c.in-Some.top.below.now)) (laid_newest c.args.base.now (overlays_of c.args.held.now) c.in-Some.top.overlay.now (overlays_of c.in-Some.top.below.now) c.in-Some.ensures.top c.requires.laid)) c.part-in-Put.ensures

pub returns-in-Kept-clause-tags : goal.returns-in-Kept-clause-tags
returns-in-Kept-clause-tags t c = kept_tags c.args.base.now (overlays_of c.args.held.now) c.in-Some.top.overlay.now (overlays_of c.in-Some.top.below.now) c.in-Some.ensures.top c.stretch_at.result.part c.stretch_at.result.base c.args.at c.args.to c.in-Kept.from c.in-Kept.len
    (c.in-Kept.ensures (text_of_all c.args.base.now (overlays_of c.in-Some.top.below.now)) (laid_newest c.args.base.now (overlays_of c.args.held.now) c.in-Some.top.overlay.now (overlays_of c.in-Some.top.below.now) c.in-Some.ensures.top c.requires.laid)) c.stretch_at.ensures.within c.stretch_at.ensures.tags
