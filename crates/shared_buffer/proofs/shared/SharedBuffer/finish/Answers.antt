use Rattle.shared_buffer.proofs.TokenLemmas.{finish_here}
use Rattle.shared_buffer.proofs.shared.SharedBuffer.finish.Goals as goal

pub returns-in-Ok-clause-ok : goal.returns-in-Ok-clause-ok
returns-in-Ok-clause-ok g c = finish_here _ c.args.self _ _ _ _ _ c.self.view_is c.ended.ensures c.in-Ok.ensures.ok
