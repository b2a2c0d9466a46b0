use Rattle.std.proofs.Common.{◌≡◌, ◌+◌, drop}
use Rattle.watch.specs.Seats.{count_below}
use Rattle.watch.proofs.watchers.place_of.Given as goal

abbrev pub invariant-loop-at : goal.invariant-loop-at
invariant-loop-at g l = l.at + count_below l.id (drop l.at l.seats) ≡ count_below l.id l.seats
