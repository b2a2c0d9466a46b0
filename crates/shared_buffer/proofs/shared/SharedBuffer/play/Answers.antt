use Rattle.shared_buffer.proofs.TokenLemmas.{spent_here}
use Rattle.shared_buffer.proofs.shared.SharedBuffer.play.Goals as goal

pub returns-in-Ok-clause-spent : goal.returns-in-Ok-clause-spent
returns-in-Ok-clause-spent g c = λ same. spent_here _ c.args.self.now c.args.command _ _ _ _ c.self.view_is c.in-None.ensures c.in-Ok.ensures.ok
