use Rattle.script.proofs.Apart.{transcripts_apart}
use Rattle.script.proofs.document_laws.values_tell_transcripts.Goals as goal

pub returns : goal.returns
returns c = transcripts_apart
