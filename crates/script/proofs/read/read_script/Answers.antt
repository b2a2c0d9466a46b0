use Rattle.std.proofs.Common.{Some, sym, ◌∙◌}
use Rattle.std.proofs.lemmas.Bool.{false≢true}
use Rattle.serde_json.specs.View.{view}
use Rattle.script.proofs.Documents.{document_is, no_document, script_read, script_kept, limits_kept, refused_at, not_json}
use Rattle.script.proofs.read.read_script.Goals as goal

pub returns-in-Err-2-clause-refused : goal.returns-in-Err-2-clause-refused
returns-in-Err-2-clause-refused c =
    let none = no_document c.args.bytes.now (c.in-Err.ensures.err (λ memory. absurd (false≢true (sym c.if-is_memory.false ∙ c.is_memory.ensures.1 memory)))) in
    not_json c.args.bytes.now c.refused.result none c.refused.ensures

pub returns-clause-read : goal.returns-clause-read
returns-clause-read c =
    let is = document_is c.args.bytes.now (Some (view c.in-Ok.value)) c.in-Ok.ensures.ok.0 c.in-Ok.ensures.ok.1 in
    script_read c.args.bytes.now (view c.in-Ok.value) c.read_value.result is c.read_value.ensures.read

pub returns-clause-limits : goal.returns-clause-limits
returns-clause-limits c =
    let is = document_is c.args.bytes.now (Some (view c.in-Ok.value)) c.in-Ok.ensures.ok.0 c.in-Ok.ensures.ok.1 in
    limits_kept c.args.bytes.now (view c.in-Ok.value) c.read_value.result is c.read_value.ensures.read

pub returns-clause-refused : goal.returns-clause-refused
returns-clause-refused c =
    let is = document_is c.args.bytes.now (Some (view c.in-Ok.value)) c.in-Ok.ensures.ok.0 c.in-Ok.ensures.ok.1 in
    refused_at c.args.bytes.now (view c.in-Ok.value) c.read_value.result is c.read_value.ensures.refused

pub returns-clause-kept : goal.returns-clause-kept
returns-clause-kept c =
    let is = document_is c.args.bytes.now (Some (view c.in-Ok.value)) c.in-Ok.ensures.ok.0 c.in-Ok.ensures.ok.1 in
    script_kept c.args.bytes.now (view c.in-Ok.value) c.read_value.result is c.read_value.ensures.read
