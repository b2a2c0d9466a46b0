use Rattle.hand_register.proofs.SeatLemmas.{are_at}
use Rattle.hand_register.proofs.tests.opened.Goals as goal

pub returns : goal.returns
returns c = are_at _ _ _ c.in-Ok.ensures.desks
