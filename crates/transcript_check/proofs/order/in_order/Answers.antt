use Rattle.std.proofs.Common.{◌≡◌, ◌∙◌, map, length, Some, sym, subst}
use Rattle.std.proofs.lemmas.Option.{MatchOption-at_some, MatchOption-at_none}
use Rattle.transcript_check.specs.Order.{AreSlots, HasGap}
use Rattle.transcript_check.proofs.Slots.{gap_of, order_once, order_is}
use Rattle.transcript_check.proofs.order.in_order.Goals as goal

pub returns-in-None-2-clause-once : goal.returns-in-None-2-clause-once
returns-in-None-2-clause-once c =
    let are : AreSlots c.args.calls.now (length c.args.calls.now) c.in-Some.slots.items = MatchOption-at_some _ _ c.in-Some.slots c.in-Some.is c.in_ok-slots.ensures in
    let hole : HasGap c.as_slice.result.now = MatchOption-at_none _ _ c.in-None-2.is c.in_ok-whole-in-Some.ensures in
    gap_of c.args.calls.now c.in-Some.slots.items (subst HasGap c.as_slice.ensures.value hole) are

pub returns-clause-once : goal.returns-clause-once
returns-clause-once c =
    let are : AreSlots c.args.calls.now (length c.args.calls.now) c.in-Some.slots.items = MatchOption-at_some _ _ c.in-Some.slots c.in-Some.is c.in_ok-slots.ensures in
    let all : c.as_slice.result.now ≡ map (λ j. Some j) c.in-Some-2.order.items = MatchOption-at_some _ _ c.in-Some-2.order c.in-Some-2.is c.in_ok-whole-in-Some.ensures in
    order_once c.args.calls.now c.in-Some.slots.items c.in-Some-2.order.items (sym c.as_slice.ensures.value ∙ all) are

pub returns-clause-order : goal.returns-clause-order
returns-clause-order c =
    let are : AreSlots c.args.calls.now (length c.args.calls.now) c.in-Some.slots.items = MatchOption-at_some _ _ c.in-Some.slots c.in-Some.is c.in_ok-slots.ensures in
    let all : c.as_slice.result.now ≡ map (λ j. Some j) c.in-Some-2.order.items = MatchOption-at_some _ _ c.in-Some-2.order c.in-Some-2.is c.in_ok-whole-in-Some.ensures in
    order_is c.args.calls.now c.in-Some.slots.items c.in-Some-2.order.items (sym c.as_slice.ensures.value ∙ all) are
