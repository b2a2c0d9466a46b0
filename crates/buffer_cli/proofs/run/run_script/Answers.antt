use Rattle.buffer_cli.specs.declared.status.Status.TheVariants as status
use Rattle.buffer_cli.proofs.Expected.{complete_done, complete_refused, complete_unwritten}
use Rattle.buffer_cli.proofs.run.run_script.Goals as goal

pub returns-in-Ok-write_all-clause-complete : goal.returns-in-Ok-write_all-clause-complete
returns-in-Ok-write_all-clause-complete g c = λ line. complete_done _ _ _ _ _ _ _ _ c.in-Ok-read_to_end.bytes c.in-Ok-answer.text.items _ _ c.in-Ok-read_to_end.ensures.read c.in-Ok-answer.ensures.ok

pub returns-in-Ok-answer-clause-complete : goal.returns-in-Ok-answer-clause-complete
returns-in-Ok-answer-clause-complete g c = λ line. complete_unwritten _ _ _ _ _ status.WriteFault (g.F.Folder.files c.args.folder.now) (g.I.Source.left c.args.input.now) c.in-Err-write_all.ensures.cause

pub returns-clause-complete : goal.returns-clause-complete
returns-clause-complete g c = λ line.
    complete_refused _ _ _ _ _ _ _ _ c.in-Ok-read_to_end.bytes _ _ c.in-Ok-read_to_end.ensures.read c.in-Err.why c.status_of.result c.status_of.ensures c.in-Err.ensures.refused c.in-Err.ensures.unloaded c.in-Err.ensures.unsaved c.in-Err.ensures.cause
