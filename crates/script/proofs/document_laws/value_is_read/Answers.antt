use Rattle.script.proofs.RuleLemmas.{value_read}
use Rattle.script.proofs.document_laws.value_is_read.Goals as goal

pub returns : goal.returns
returns c = value_read
