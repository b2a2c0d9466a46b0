use Rattle.machine.proofs.StepLemmas.{step_numbers}
use Rattle.machine.proofs.laws.calls_are_numbered.Goals as goal

pub returns : goal.returns
returns c = step_numbers
