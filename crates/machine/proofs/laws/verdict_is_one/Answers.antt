use Rattle.machine.proofs.OneVerdict.{verdict_is_one}
use Rattle.machine.proofs.laws.verdict_is_one.Goals as goal

pub returns : goal.returns
returns c = verdict_is_one
