use Rattle.generator.proofs.Within.{made_without_patterns}
use Rattle.generator.proofs.laws.made_script_has_no_patterns.Goals as goal

pub returns : goal.returns
returns c = made_without_patterns
