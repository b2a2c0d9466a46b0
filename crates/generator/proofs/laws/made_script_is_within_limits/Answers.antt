use Rattle.generator.proofs.Within.{made_within}
use Rattle.generator.proofs.laws.made_script_is_within_limits.Goals as goal

pub returns : goal.returns
returns c = made_within
