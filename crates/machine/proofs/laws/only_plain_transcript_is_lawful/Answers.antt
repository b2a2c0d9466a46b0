use Rattle.machine.proofs.OnlyPlain.{only_plain_is_lawful}
use Rattle.machine.proofs.laws.only_plain_transcript_is_lawful.Goals as goal

pub returns : goal.returns
returns c = only_plain_is_lawful
