use Rattle.std.proofs.Common.{rules}
use Rattle.sessions.proofs.SeatLemmas.{all_seated}
use Rattle.sessions.proofs.seating.seat_all.Goals as goal

pub returns : goal.returns
returns g c = all_seated _ _ _ _ _ (search rules) c.loop-plan.invariant.seating
