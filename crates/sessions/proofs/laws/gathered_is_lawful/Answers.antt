use Rattle.sessions.proofs.Gathering.{gathered}
use Rattle.sessions.proofs.laws.gathered_is_lawful.Goals as goal

pub returns : goal.returns
returns c = gathered
