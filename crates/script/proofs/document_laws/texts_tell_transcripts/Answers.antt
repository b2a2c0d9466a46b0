use Rattle.script.proofs.TextsApart.{texts_apart}
use Rattle.script.proofs.document_laws.texts_tell_transcripts.Goals as goal

pub returns : goal.returns
returns c = texts_apart
