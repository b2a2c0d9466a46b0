use Rattle.std.proofs.Common.{◌≡◌, ℕ, ◌≤◌, List, length, ap, arith}
use Rattle.chains.specs.declared.spot.Spot.{Spot}
use Rattle.chains.specs.Overlay.{overlays_of, text_of_all}
use Rattle.chains.proofs.LaidLemmas.{end_of_newest}
use Rattle.chains.proofs.StretchLemmas.{laid_newest, text_short}
use Rattle.chains.proofs.SpotLemmas.{room_put, room_below}
use Rattle.chains.proofs.lookup.+spot_above.Goals as goal

pub way_down-requires-clause-within : goal.way_down-requires-clause-within
way_down-requires-clause-within t c = let end = end_of_newest c.args.base.now (overlays_of c.args.held.now) c.in-Some.top.overlay.now (overlays_of c.in-Some.top.below.now) c.in-Some.ensures.top c.requires.laid in
    omega (arith, ap (λ (x : Spot). x.offset) end.0, c.requires.within)

pub overflow_add-text : goal.overflow_add-text
overflow_add-text t c = let laid = (laid_newest c.args.base.now (overlays_of c.args.held.now) c.in-Some.top.overlay.now (overlays_of c.in-Some.top.below.now) c.in-Some.ensures.top c.requires.laid) in
    let leads = c.in-Put.ensures (text_of_all c.args.base.now (overlays_of c.in-Some.top.below.now)) laid in omega (arith, leads.1, text_short (text_of_all c.args.base.now (overlays_of c.in-Some.top.below.now)) c.in-Some.top.overlay.now laid)

pub ahead-requires-clause-room : goal.ahead-requires-clause-room
ahead-requires-clause-room t c = (room_put c.args.base.now (overlays_of c.args.held.now) c.in-Some.top.overlay.now (overlays_of c.in-Some.top.below.now) c.in-Some.ensures.top c.requires.laid c.args.at c.in-Put.new c.in-Put.text c.spot_in-start.result c.spot_in-place.result (c.in-Put.ensures (text_of_all c.args.base.now (overlays_of c.in-Some.top.below.now)) (laid_newest c.args.base.now (overlays_of c.args.held.now) c.in-Some.top.overlay.now (overlays_of c.in-Some.top.below.now) c.in-Some.ensures.top c.requires.laid)) c.spot_in-start.ensures c.spot_in-place.ensures c.requires.within).0

pub ahead-requires-clause-near : goal.ahead-requires-clause-near
ahead-requires-clause-near t c = (room_put c.args.base.now (overlays_of c.args.held.now) c.in-Some.top.overlay.now (overlays_of c.in-Some.top.below.now) c.in-Some.ensures.top c.requires.laid c.args.at c.in-Put.new c.in-Put.text c.spot_in-start.result c.spot_in-place.result (c.in-Put.ensures (text_of_all c.args.base.now (overlays_of c.in-Some.top.below.now)) (laid_newest c.args.base.now (overlays_of c.args.held.now) c.in-Some.top.overlay.now (overlays_of c.in-Some.top.below.now) c.in-Some.ensures.top c.requires.laid)) c.spot_in-start.ensures c.spot_in-place.ensures c.requires.within).1

pub ahead-requires-in-Below-clause-room : goal.ahead-requires-in-Below-clause-room
ahead-requires-in-Below-clause-room t c = (room_below c.args.base.now (overlays_of c.args.held.now) c.in-Some.top.overlay.now (overlays_of c.in-Some.top.below.now) c.in-Some.ensures.top c.requires.laid c.args.at c.in-Below.new c.in-Below.old c.spot_above-place.result (c.in-Below.ensures (text_of_all c.args.base.now (overlays_of c.in-Some.top.below.now)) (laid_newest c.args.base.now (overlays_of c.args.held.now) c.in-Some.top.overlay.now (overlays_of c.in-Some.top.below.now) c.in-Some.ensures.top c.requires.laid)) c.spot_above-place.ensures c.requires.within).0

pub ahead-requires-in-Below-clause-near : goal.ahead-requires-in-Below-clause-near
ahead-requires-in-Below-clause-near t c = (room_below c.args.base.now (overlays_of c.args.held.now) c.in-Some.top.overlay.now (overlays_of c.in-Some.top.below.now) c.in-Some.ensures.top c.requires.laid c.args.at c.in-Below.new c.in-Below.old c.spot_above-place.result (c.in-Below.ensures (text_of_all c.args.base.now (overlays_of c.in-Some.top.below.now)) (laid_newest c.args.base.now (overlays_of c.args.held.now) c.in-Some.top.overlay.now (overlays_of c.in-Some.top.below.now) c.in-Some.ensures.top c.requires.laid)) c.spot_above-place.ensures c.requires.within).1
