use Rattle.watch.proofs.TellLemmas.{fewer, refilled_stands}
use Rattle.watch.proofs.watchers.Watchers.tell.Goals as goal

pub tell_slots-requires-clause-few : goal.tell_slots-requires-clause-few
tell_slots-requires-clause-few g c = λ κs lives. rw c.as_mut_slice.ensures.value (fewer c.args.self.now.told 0x7FFF_FFFF_FFFF_FFFF c.args.self.now.seats.items c.requires.few c.requires.stands.few)

pub tell_slots-requires-clause-kept : goal.tell_slots-requires-clause-kept
tell_slots-requires-clause-kept g c = λ κs lives. rw c.as_mut_slice.ensures.value c.requires.stands.kept

pub returns-clause-stands : goal.returns-clause-stands
returns-clause-stands g c = refilled_stands _ c.args.change.now c.args.self.now.told c.args.self.now.seats.items c.as_mut_slice.result.now c.tell_slots.new.slots c.as_mut_slice.ensures.value c.requires.stands c.tell_slots.ensures.told c.tell_slots.ensures.kept
