use Rattle.layers.proofs.LawLemmas.{installed_top, installed_others}
use Rattle.layers.proofs.laws.installed_is_the_top.Goals as goal

pub returns-clause-top : goal.returns-clause-top
returns-clause-top c = λ s p free n. installed_top s p free n

pub returns-clause-others : goal.returns-clause-others
returns-clause-others c = λ s p n q other. installed_others s p n q other
