use Rattle.std.proofs.Common.{◌<◌, refl}
use Rattle.watch.proofs.TellLemmas.{seat_next, told_more, all_told}
use Rattle.watch.proofs.watchers.tell_slots.Goals as goal

pub loop-slot-init : goal.loop-slot-init
loop-slot-init g c = refl

pub tell_slot-requires-clause-few : goal.tell_slot-requires-clause-few
tell_slot-requires-clause-few g c = λ κs lives. seat_next _ (λ s. s.told < 0x7FFF_FFFF_FFFF_FFFF) c.loop-slot.slot-index c.args.slots.now c.loop-slot.slots c.slot-item.result c.loop-slot.invariant c.loop-slot-test.true c.requires.few

pub tell_slot-requires-clause-kept : goal.tell_slot-requires-clause-kept
tell_slot-requires-clause-kept g c = λ κs lives. seat_next _ _ c.loop-slot.slot-index c.args.slots.now c.loop-slot.slots c.slot-item.result c.loop-slot.invariant c.loop-slot-test.true c.requires.kept

pub loop-slot-preserved : goal.loop-slot-preserved
loop-slot-preserved g c = told_more _ c.loop-slot.slot-index c.args.slots.now c.loop-slot.slots c.slot-item.result c.tell_slot.new.slot c.loop-slot.invariant c.loop-slot-test.true (c.tell_slot.ensures.told, c.tell_slot.ensures.kept)

pub returns-clause-told : goal.returns-clause-told
returns-clause-told g c = (all_told c.args.change.now _ c.loop-slot.slot-index c.args.slots.now c.loop-slot.slots c.loop-slot-test.false c.loop-slot.invariant).0

pub returns-clause-kept : goal.returns-clause-kept
returns-clause-kept g c = (all_told c.args.change.now _ c.loop-slot.slot-index c.args.slots.now c.loop-slot.slots c.loop-slot-test.false c.loop-slot.invariant).1
