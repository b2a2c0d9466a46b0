use Rattle.machine.proofs.OneSession.{plain_is_lawful}
use Rattle.machine.proofs.laws.plain_transcript_is_lawful.Goals as goal

pub returns : goal.returns
returns c = plain_is_lawful
