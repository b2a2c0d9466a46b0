use Rattle.chains.proofs.ChainLemmas.{follows_change, follows_squash, text_edits}
use Rattle.chains.proofs.laws.layers_follow_edits.Goals as goal

pub returns-clause-change : goal.returns-clause-change
returns-clause-change c = λ x edits. follows_change x.base x.edits edits

pub returns-clause-squash : goal.returns-clause-squash
returns-clause-squash c = λ x. follows_squash x.base x.edits

pub returns-clause-text : goal.returns-clause-text
returns-clause-text c = λ x. text_edits x.base x.edits
