use Rattle.layers.proofs.LawLemmas.{change_text, squash_text}
use Rattle.layers.proofs.laws.layers_keep_the_text.Goals as goal

pub returns-clause-change : goal.returns-clause-change
returns-clause-change c = λ v i j put. change_text v i j put

pub returns-clause-squash : goal.returns-clause-squash
returns-clause-squash c = λ v. squash_text v
