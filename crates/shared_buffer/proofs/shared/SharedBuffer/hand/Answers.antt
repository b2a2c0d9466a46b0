use Rattle.shared_buffer.proofs.TokenLemmas.{full_here}
use Rattle.shared_buffer.proofs.shared.SharedBuffer.hand.Goals as goal

pub returns-in-Ok-clause-full : goal.returns-in-Ok-clause-full
returns-in-Ok-clause-full g c = λ same. full_here _ c.args.self.now _ _ _ _ c.self.view_is c.in-None.ensures.number c.in-Ok.ensures.ok
