use Rattle.layers.proofs.EventLemmas.{chain_of_edits, text_of_edits, version_of_edits}
use Rattle.layers.proofs.laws.top_is_the_chain_of_edits.Goals as goal

pub returns-clause-layers : goal.returns-clause-layers
returns-clause-layers c = λ s es allowed. chain_of_edits s es allowed

pub returns-clause-text : goal.returns-clause-text
returns-clause-text c = λ s es allowed. text_of_edits s es allowed

pub returns-clause-version : goal.returns-clause-version
returns-clause-version c = λ s es allowed. version_of_edits s es allowed
