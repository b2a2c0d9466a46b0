use Rattle.std.proofs.Common.{sym}
use Rattle.shared_buffer.proofs.shared.SharedBuffer.end.Goals as goal

pub returns-clause-joined : goal.returns-clause-joined
returns-clause-joined g c = rw (sym c.self.view_is) c.end.ensures.joined
