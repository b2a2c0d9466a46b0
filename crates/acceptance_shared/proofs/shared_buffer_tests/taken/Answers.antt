use Rattle.acceptance_shared.proofs.SharingLemmas.{are_front}
use Rattle.acceptance_shared.proofs.shared_buffer_tests.taken.Goals as goal

pub returns-clause-others : goal.returns-clause-others
returns-clause-others c = are_front c.args.buffer.now _ _ _ c.pop.ensures.items c.requires
