use Rattle.std.proofs.Common.{rules, ◌≡◌, ℕ, ◌+◌, ◌-◌, ◌≤◌, List, length, ap, sym, ◌∙◌, subst, arith}
use Rattle.points.specs.declared.point.Point.{Point}
use Rattle.points.specs.declared.limits.TheConstants.{MAX_COORD}
use Rattle.points.specs.Point.{IsWithin, traverse}
use Rattle.points.specs.Place.{point_at}
use Rattle.chains.specs.declared.spot.Spot.{Spot}
use Rattle.chains.specs.declared.lookup.WayDown.TheVariants.{Put, Below}
use Rattle.chains.specs.Overlay.{overlays_of, text_of_all}
use Rattle.chains.specs.Spots.{spot_in}
use Rattle.chains.proofs.StretchLemmas.{laid_below}
use Rattle.chains.proofs.SpotLemmas.{room_put, room_below}
use Rattle.chains.proofs.WalkLemmas.{leads_here, carried_put, carried_below, reached_put, reached_below}
use Rattle.chains.proofs.lookup.+spot_of.Goals as goal

pub traverse-carried-requires : goal.traverse-carried-requires
traverse-carried-requires t c =
    let i : ℕ = c.requires.exists.offset in
    let leads = leads_here c.args.base.now (overlays_of c.args.held.now) c.in-Some.top.overlay.now (overlays_of c.in-Some.top.below.now) c.in-Some.ensures.top c.requires.laid c.args.point i c.requires.exists.is (Put c.in-Put.new c.in-Put.text) c.in-Put.ensures c.requires.exists.within in
    let k : ℕ = c.in-Put.text + (i - c.in-Put.new.offset) in
    let over = carried_put c.args.base.now (overlays_of c.args.held.now) c.in-Some.top.overlay.now (overlays_of c.in-Some.top.below.now) c.in-Some.ensures.top c.requires.laid c.args.point i c.requires.exists.is c.in-Put.new c.in-Put.text c.spot_in-start.result leads c.spot_in-start.ensures in
    subst (λ (x : Point). IsWithin MAX_COORD (traverse c.spot_in-start.result.point x)) (sym c.traversal.ensures) over.1

pub spot_to-place-requires : goal.spot_to-place-requires
spot_to-place-requires t c =
    let i : ℕ = c.requires.exists.offset in
    let leads = leads_here c.args.base.now (overlays_of c.args.held.now) c.in-Some.top.overlay.now (overlays_of c.in-Some.top.below.now) c.in-Some.ensures.top c.requires.laid c.args.point i c.requires.exists.is (Put c.in-Put.new c.in-Put.text) c.in-Put.ensures c.requires.exists.within in
    let k : ℕ = c.in-Put.text + (i - c.in-Put.new.offset) in
    let over = carried_put c.args.base.now (overlays_of c.args.held.now) c.in-Some.top.overlay.now (overlays_of c.in-Some.top.below.now) c.in-Some.ensures.top c.requires.laid c.args.point i c.requires.exists.is c.in-Put.new c.in-Put.text c.spot_in-start.result leads c.spot_in-start.ensures in
    let carried_is : c.traverse-carried.result ≡ point_at c.in-Some.top.overlay.now.text k = c.traverse-carried.ensures ∙ (ap (traverse c.spot_in-start.result.point) c.traversal.ensures ∙ over.0) in
    record { offset = k; within = leads.1; is = sym carried_is }

pub ahead-requires-clause-order : goal.ahead-requires-clause-order
ahead-requires-clause-order t c =
    let i : ℕ = c.requires.exists.offset in
    let leads = leads_here c.args.base.now (overlays_of c.args.held.now) c.in-Some.top.overlay.now (overlays_of c.in-Some.top.below.now) c.in-Some.ensures.top c.requires.laid c.args.point i c.requires.exists.is (Put c.in-Put.new c.in-Put.text) c.in-Put.ensures c.requires.exists.within in
    let k : ℕ = c.in-Put.text + (i - c.in-Put.new.offset) in
    let over = carried_put c.args.base.now (overlays_of c.args.held.now) c.in-Some.top.overlay.now (overlays_of c.in-Some.top.below.now) c.in-Some.ensures.top c.requires.laid c.args.point i c.requires.exists.is c.in-Put.new c.in-Put.text c.spot_in-start.result leads c.spot_in-start.ensures in
    let carried_is : c.traverse-carried.result ≡ point_at c.in-Some.top.overlay.now.text k = c.traverse-carried.ensures ∙ (ap (traverse c.spot_in-start.result.point) c.traversal.ensures ∙ over.0) in
    let place_is : c.spot_to-place.result ≡ spot_in c.in-Some.top.overlay.now.text k = c.spot_to-place.ensures k leads.1 (sym carried_is) in
    omega (arith, ap (λ (x : Spot). x.offset) place_is, ap (λ (x : Spot). x.offset) c.spot_in-start.ensures)

pub ahead-requires-clause-room : goal.ahead-requires-clause-room
ahead-requires-clause-room t c =
    let i : ℕ = c.requires.exists.offset in
    let leads = leads_here c.args.base.now (overlays_of c.args.held.now) c.in-Some.top.overlay.now (overlays_of c.in-Some.top.below.now) c.in-Some.ensures.top c.requires.laid c.args.point i c.requires.exists.is (Put c.in-Put.new c.in-Put.text) c.in-Put.ensures c.requires.exists.within in
    let k : ℕ = c.in-Put.text + (i - c.in-Put.new.offset) in
    let over = carried_put c.args.base.now (overlays_of c.args.held.now) c.in-Some.top.overlay.now (overlays_of c.in-Some.top.below.now) c.in-Some.ensures.top c.requires.laid c.args.point i c.requires.exists.is c.in-Put.new c.in-Put.text c.spot_in-start.result leads c.spot_in-start.ensures in
    let carried_is : c.traverse-carried.result ≡ point_at c.in-Some.top.overlay.now.text k = c.traverse-carried.ensures ∙ (ap (traverse c.spot_in-start.result.point) c.traversal.ensures ∙ over.0) in
    let place_is : c.spot_to-place.result ≡ spot_in c.in-Some.top.overlay.now.text k = c.spot_to-place.ensures k leads.1 (sym carried_is) in
    (room_put c.args.base.now (overlays_of c.args.held.now) c.in-Some.top.overlay.now (overlays_of c.in-Some.top.below.now) c.in-Some.ensures.top c.requires.laid i c.in-Put.new c.in-Put.text c.spot_in-start.result c.spot_to-place.result leads c.spot_in-start.ensures place_is c.requires.exists.within).0

pub ahead-requires-clause-near : goal.ahead-requires-clause-near
ahead-requires-clause-near t c =
    let i : ℕ = c.requires.exists.offset in
    let leads = leads_here c.args.base.now (overlays_of c.args.held.now) c.in-Some.top.overlay.now (overlays_of c.in-Some.top.below.now) c.in-Some.ensures.top c.requires.laid c.args.point i c.requires.exists.is (Put c.in-Put.new c.in-Put.text) c.in-Put.ensures c.requires.exists.within in
    let k : ℕ = c.in-Put.text + (i - c.in-Put.new.offset) in
    let over = carried_put c.args.base.now (overlays_of c.args.held.now) c.in-Some.top.overlay.now (overlays_of c.in-Some.top.below.now) c.in-Some.ensures.top c.requires.laid c.args.point i c.requires.exists.is c.in-Put.new c.in-Put.text c.spot_in-start.result leads c.spot_in-start.ensures in
    let carried_is : c.traverse-carried.result ≡ point_at c.in-Some.top.overlay.now.text k = c.traverse-carried.ensures ∙ (ap (traverse c.spot_in-start.result.point) c.traversal.ensures ∙ over.0) in
    let place_is : c.spot_to-place.result ≡ spot_in c.in-Some.top.overlay.now.text k = c.spot_to-place.ensures k leads.1 (sym carried_is) in
    (room_put c.args.base.now (overlays_of c.args.held.now) c.in-Some.top.overlay.now (overlays_of c.in-Some.top.below.now) c.in-Some.ensures.top c.requires.laid i c.in-Put.new c.in-Put.text c.spot_in-start.result c.spot_to-place.result leads c.spot_in-start.ensures place_is c.requires.exists.within).1

pub traverse-carried-requires-in-Below : goal.traverse-carried-requires-in-Below
traverse-carried-requires-in-Below t c =
    let i : ℕ = c.requires.exists.offset in
    let leads = leads_here c.args.base.now (overlays_of c.args.held.now) c.in-Some.top.overlay.now (overlays_of c.in-Some.top.below.now) c.in-Some.ensures.top c.requires.laid c.args.point i c.requires.exists.is (Below c.in-Below.new c.in-Below.old) c.in-Below.ensures c.requires.exists.within in
    let k : ℕ = c.in-Below.old.offset + (i - c.in-Below.new.offset) in
    let over = carried_below c.args.base.now (overlays_of c.args.held.now) c.in-Some.top.overlay.now (overlays_of c.in-Some.top.below.now) c.in-Some.ensures.top c.requires.laid c.args.point i c.requires.exists.is c.in-Below.new c.in-Below.old leads in
    subst (λ (x : Point). IsWithin MAX_COORD (traverse c.in-Below.old.point x)) (sym c.traversal-in-Below.ensures) over.1

pub spot_of-place-requires : goal.spot_of-place-requires
spot_of-place-requires t c =
    let i : ℕ = c.requires.exists.offset in
    let leads = leads_here c.args.base.now (overlays_of c.args.held.now) c.in-Some.top.overlay.now (overlays_of c.in-Some.top.below.now) c.in-Some.ensures.top c.requires.laid c.args.point i c.requires.exists.is (Below c.in-Below.new c.in-Below.old) c.in-Below.ensures c.requires.exists.within in
    let k : ℕ = c.in-Below.old.offset + (i - c.in-Below.new.offset) in
    let over = carried_below c.args.base.now (overlays_of c.args.held.now) c.in-Some.top.overlay.now (overlays_of c.in-Some.top.below.now) c.in-Some.ensures.top c.requires.laid c.args.point i c.requires.exists.is c.in-Below.new c.in-Below.old leads in
    let carried_is : c.traverse-carried-in-Below.result ≡ point_at (text_of_all c.args.base.now (overlays_of c.in-Some.top.below.now)) k = c.traverse-carried-in-Below.ensures ∙ (ap (traverse c.in-Below.old.point) c.traversal-in-Below.ensures ∙ over.0) in
    (search (rules, c.in-Some.ensures.fewer, c.decreases), (laid_below c.args.base.now (overlays_of c.args.held.now) c.in-Some.top.overlay.now (overlays_of c.in-Some.top.below.now) c.in-Some.ensures.top c.requires.laid, record { offset = k; within = leads.1; is = sym carried_is }))

pub ahead-requires-in-Below-clause-order : goal.ahead-requires-in-Below-clause-order
ahead-requires-in-Below-clause-order t c =
    let i : ℕ = c.requires.exists.offset in
    let leads = leads_here c.args.base.now (overlays_of c.args.held.now) c.in-Some.top.overlay.now (overlays_of c.in-Some.top.below.now) c.in-Some.ensures.top c.requires.laid c.args.point i c.requires.exists.is (Below c.in-Below.new c.in-Below.old) c.in-Below.ensures c.requires.exists.within in
    let k : ℕ = c.in-Below.old.offset + (i - c.in-Below.new.offset) in
    let over = carried_below c.args.base.now (overlays_of c.args.held.now) c.in-Some.top.overlay.now (overlays_of c.in-Some.top.below.now) c.in-Some.ensures.top c.requires.laid c.args.point i c.requires.exists.is c.in-Below.new c.in-Below.old leads in
    let carried_is : c.traverse-carried-in-Below.result ≡ point_at (text_of_all c.args.base.now (overlays_of c.in-Some.top.below.now)) k = c.traverse-carried-in-Below.ensures ∙ (ap (traverse c.in-Below.old.point) c.traversal-in-Below.ensures ∙ over.0) in
    let place_is : c.spot_of-place.result ≡ spot_in (text_of_all c.args.base.now (overlays_of c.in-Some.top.below.now)) k = c.spot_of-place.ensures k leads.1 (sym carried_is) in
    omega (arith, ap (λ (x : Spot). x.offset) place_is)

pub ahead-requires-in-Below-clause-room : goal.ahead-requires-in-Below-clause-room
ahead-requires-in-Below-clause-room t c =
    let i : ℕ = c.requires.exists.offset in
    let leads = leads_here c.args.base.now (overlays_of c.args.held.now) c.in-Some.top.overlay.now (overlays_of c.in-Some.top.below.now) c.in-Some.ensures.top c.requires.laid c.args.point i c.requires.exists.is (Below c.in-Below.new c.in-Below.old) c.in-Below.ensures c.requires.exists.within in
    let k : ℕ = c.in-Below.old.offset + (i - c.in-Below.new.offset) in
    let over = carried_below c.args.base.now (overlays_of c.args.held.now) c.in-Some.top.overlay.now (overlays_of c.in-Some.top.below.now) c.in-Some.ensures.top c.requires.laid c.args.point i c.requires.exists.is c.in-Below.new c.in-Below.old leads in
    let carried_is : c.traverse-carried-in-Below.result ≡ point_at (text_of_all c.args.base.now (overlays_of c.in-Some.top.below.now)) k = c.traverse-carried-in-Below.ensures ∙ (ap (traverse c.in-Below.old.point) c.traversal-in-Below.ensures ∙ over.0) in
    let place_is : c.spot_of-place.result ≡ spot_in (text_of_all c.args.base.now (overlays_of c.in-Some.top.below.now)) k = c.spot_of-place.ensures k leads.1 (sym carried_is) in
    (room_below c.args.base.now (overlays_of c.args.held.now) c.in-Some.top.overlay.now (overlays_of c.in-Some.top.below.now) c.in-Some.ensures.top c.requires.laid i c.in-Below.new c.in-Below.old c.spot_of-place.result leads place_is c.requires.exists.within).0

pub ahead-requires-in-Below-clause-near : goal.ahead-requires-in-Below-clause-near
ahead-requires-in-Below-clause-near t c =
    let i : ℕ = c.requires.exists.offset in
    let leads = leads_here c.args.base.now (overlays_of c.args.held.now) c.in-Some.top.overlay.now (overlays_of c.in-Some.top.below.now) c.in-Some.ensures.top c.requires.laid c.args.point i c.requires.exists.is (Below c.in-Below.new c.in-Below.old) c.in-Below.ensures c.requires.exists.within in
    let k : ℕ = c.in-Below.old.offset + (i - c.in-Below.new.offset) in
    let over = carried_below c.args.base.now (overlays_of c.args.held.now) c.in-Some.top.overlay.now (overlays_of c.in-Some.top.below.now) c.in-Some.ensures.top c.requires.laid c.args.point i c.requires.exists.is c.in-Below.new c.in-Below.old leads in
    let carried_is : c.traverse-carried-in-Below.result ≡ point_at (text_of_all c.args.base.now (overlays_of c.in-Some.top.below.now)) k = c.traverse-carried-in-Below.ensures ∙ (ap (traverse c.in-Below.old.point) c.traversal-in-Below.ensures ∙ over.0) in
    let place_is : c.spot_of-place.result ≡ spot_in (text_of_all c.args.base.now (overlays_of c.in-Some.top.below.now)) k = c.spot_of-place.ensures k leads.1 (sym carried_is) in
    (room_below c.args.base.now (overlays_of c.args.held.now) c.in-Some.top.overlay.now (overlays_of c.in-Some.top.below.now) c.in-Some.ensures.top c.requires.laid i c.in-Below.new c.in-Below.old c.spot_of-place.result leads place_is c.requires.exists.within).1

pub returns-in-Put : goal.returns-in-Put
returns-in-Put t c = λ j within is.
    let i : ℕ = j in
    let leads = leads_here c.args.base.now (overlays_of c.args.held.now) c.in-Some.top.overlay.now (overlays_of c.in-Some.top.below.now) c.in-Some.ensures.top c.requires.laid c.args.point i is (Put c.in-Put.new c.in-Put.text) c.in-Put.ensures within in
    let k : ℕ = c.in-Put.text + (i - c.in-Put.new.offset) in
    let over = carried_put c.args.base.now (overlays_of c.args.held.now) c.in-Some.top.overlay.now (overlays_of c.in-Some.top.below.now) c.in-Some.ensures.top c.requires.laid c.args.point i is c.in-Put.new c.in-Put.text c.spot_in-start.result leads c.spot_in-start.ensures in
    let carried_is : c.traverse-carried.result ≡ point_at c.in-Some.top.overlay.now.text k = c.traverse-carried.ensures ∙ (ap (traverse c.spot_in-start.result.point) c.traversal.ensures ∙ over.0) in
    let place_is : c.spot_to-place.result ≡ spot_in c.in-Some.top.overlay.now.text k = c.spot_to-place.ensures k leads.1 (sym carried_is) in
    c.ahead.ensures ∙ reached_put c.args.base.now (overlays_of c.args.held.now) c.in-Some.top.overlay.now (overlays_of c.in-Some.top.below.now) c.in-Some.ensures.top c.requires.laid c.args.point i is c.in-Put.new c.in-Put.text c.spot_in-start.result c.spot_to-place.result leads c.spot_in-start.ensures place_is

pub returns-in-Below : goal.returns-in-Below
returns-in-Below t c = λ j within is.
    let i : ℕ = j in
    let leads = leads_here c.args.base.now (overlays_of c.args.held.now) c.in-Some.top.overlay.now (overlays_of c.in-Some.top.below.now) c.in-Some.ensures.top c.requires.laid c.args.point i is (Below c.in-Below.new c.in-Below.old) c.in-Below.ensures within in
    let k : ℕ = c.in-Below.old.offset + (i - c.in-Below.new.offset) in
    let over = carried_below c.args.base.now (overlays_of c.args.held.now) c.in-Some.top.overlay.now (overlays_of c.in-Some.top.below.now) c.in-Some.ensures.top c.requires.laid c.args.point i is c.in-Below.new c.in-Below.old leads in
    let carried_is : c.traverse-carried-in-Below.result ≡ point_at (text_of_all c.args.base.now (overlays_of c.in-Some.top.below.now)) k = c.traverse-carried-in-Below.ensures ∙ (ap (traverse c.in-Below.old.point) c.traversal-in-Below.ensures ∙ over.0) in
    let place_is : c.spot_of-place.result ≡ spot_in (text_of_all c.args.base.now (overlays_of c.in-Some.top.below.now)) k = c.spot_of-place.ensures k leads.1 (sym carried_is) in
    c.ahead-in-Below.ensures ∙ reached_below c.args.base.now (overlays_of c.args.held.now) c.in-Some.top.overlay.now (overlays_of c.in-Some.top.below.now) c.in-Some.ensures.top c.requires.laid c.args.point i is c.in-Below.new c.in-Below.old c.spot_of-place.result leads place_is
