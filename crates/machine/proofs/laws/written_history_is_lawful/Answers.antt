use Rattle.machine.proofs.ManySessions.{history_is_lawful}
use Rattle.machine.proofs.laws.written_history_is_lawful.Goals as goal

pub returns : goal.returns
returns c = history_is_lawful
