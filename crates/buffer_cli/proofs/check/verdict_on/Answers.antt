use Rattle.buffer_cli.proofs.CheckLemmas.{judged_on, refused_on}
use Rattle.buffer_cli.proofs.check.verdict_on.Goals as goal

pub returns-clause-ok : goal.returns-clause-ok
returns-clause-ok g c = judged_on c.args.script.now c.args.transcript.now _ _ _ c.in_ok-documents.documents c.in_ok-documents.ensures.read _ c.judge.result c.judge.ensures.ok c.judge.ensures.kept

pub returns-clause-refused : goal.returns-clause-refused
returns-clause-refused g c = refused_on c.args.script.now c.args.transcript.now _ _ _ c.in_ok-documents.documents c.in_ok-documents.ensures.read _ c.judge.result c.judge.ensures.refused
