use Rattle.acceptance_shared.proofs.SharingLemmas.{are_desks}
use Rattle.acceptance_shared.proofs.shared_buffer_tests.started.Goals as goal

pub returns : goal.returns
returns c = are_desks c.in-Ok.started.buffer _ _ c.in-Ok.ensures.desks
