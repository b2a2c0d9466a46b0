use Rattle.generator.proofs.Within.{made_without_saves}
use Rattle.generator.proofs.laws.made_script_has_no_saves.Goals as goal

pub returns : goal.returns
returns c = made_without_saves
