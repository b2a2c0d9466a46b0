use Rattle.watch.specs.Seats.{HasHeard}
use Rattle.watch.proofs.TellLemmas.{Partly, Told}
use Rattle.watch.proofs.watchers.tell_slots.Given as goal

abbrev pub invariant-loop-slot : goal.invariant-loop-slot
invariant-loop-slot g l = Partly (Told l.change (HasHeard g.W.Watcher.count_of g.W.Watcher.list_of)) l.slot-index l.initial.slots l.slots
