use Rattle.shared_buffer.proofs.TokenLemmas.{taken_here}
use Rattle.shared_buffer.proofs.shared.SharedBuffer.take.Goals as goal

pub returns-in-Some-clause-ok : goal.returns-in-Some-clause-ok
returns-in-Some-clause-ok g c = taken_here _ c.args.self.now _ _ _ _ _ _ c.self.view_is c.in-Some.ensures c.in-Ok.ensures.ok
