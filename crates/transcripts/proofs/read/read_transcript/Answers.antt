use Rattle.std.proofs.Common.{Some, sym, ◌∙◌}
use Rattle.std.proofs.lemmas.Bool.{false≢true}
use Rattle.serde_json.specs.View.{view}
use Rattle.script.proofs.Documents.{document_is, no_document}
use Rattle.transcripts.proofs.Whole.{nothing_read, none_read, one_read}
use Rattle.transcripts.proofs.read.read_transcript.Goals as goal

pub returns-in-Err-2 : goal.returns-in-Err-2
returns-in-Err-2 c =
    nothing_read c.args.bytes.now (no_document c.args.bytes.now (c.in-Err.ensures.err (λ memory. absurd (false≢true (sym c.if-is_memory.false ∙ c.is_memory.ensures.1 memory)))))

pub returns-in-Ok-from_value : goal.returns-in-Ok-from_value
returns-in-Ok-from_value c =
    let is = document_is c.args.bytes.now (Some (view c.in-Ok.value)) c.in-Ok.ensures.ok.0 c.in-Ok.ensures.ok.1 in
    one_read c.args.bytes.now (view c.in-Ok.value) c.in-Ok-from_value.transcript is c.in-Ok-from_value.ensures

pub returns-in-Err-Form : goal.returns-in-Err-Form
returns-in-Err-Form c =
    let is = document_is c.args.bytes.now (Some (view c.in-Ok.value)) c.in-Ok.ensures.ok.0 c.in-Ok.ensures.ok.1 in
    let none = rw c.in-Err-Form.field-0-is at c.in-Err-Form.ensures in
    none_read c.args.bytes.now (view c.in-Ok.value) is none
