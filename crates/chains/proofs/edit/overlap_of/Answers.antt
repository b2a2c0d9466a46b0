use Rattle.chains.proofs.EditLemmas.{overlap_some}
use Rattle.chains.proofs.edit.overlap_of.Goals as goal

pub returns-then-first-last : goal.returns-then-first-last
returns-then-first-last c = λ t n k lies from_in to_in. overlap_some t n k c.args.start c.args.end lies c.args.from c.args.to from_in to_in c.later-first.result c.earlier-last.result c.later-first.ensures c.earlier-last.ensures c.if-first-last.true
