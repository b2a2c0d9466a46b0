use Rattle.outer.proofs.Appended.{AppendsPrefix-all}
use Rattle.buffer_cli.proofs.output.write_all.Goals as goal

pub returns-in-Err-clause-prefix : goal.returns-in-Err-clause-prefix
returns-in-Err-clause-prefix g c = rw c.in-Err.ensures.kept (AppendsPrefix-all _ _ _ c.in_ok-put.ensures.appends)
