use Rattle.buffer_cli.specs.Check.{of_input}
use Rattle.buffer_cli.proofs.CheckLemmas.{unfetched_in, unfetched_transcript}
use Rattle.buffer_cli.proofs.check.fetch_both.Goals as goal

pub returns-in_err-transcript-clause-read : goal.returns-in_err-transcript-clause-read
returns-in_err-transcript-clause-read g c =
    unfetched_in c.args.script.now c.args.transcript.now _ _ c.from_residual-in_err-transcript.result (of_input c.in_err-transcript.field-0.0) c.from_residual-in_err-transcript.ensures.1
    (unfetched_transcript _ _ _ _ _ c.in_ok-script.script _ c.in_ok-script.ensures.fetched c.in_err-transcript.ensures.fetched)
