use Rattle.std.proofs.Common.{Some, option_and_then, ap, ◌∙◌}
use Rattle.std.proofs.lemmas.Option.{option_and_then_some}
use Rattle.script.proofs.KeyOrder.{document_in_order}
use Rattle.script.proofs.RuleLemmas.{value_read, value_of_read}
use Rattle.script.specs.ScriptDocument.{script_of, document}
use Rattle.script.proofs.document_laws.bytes_are_their_script.Goals as goal

pub returns : goal.returns
returns c = λ bytes s. (
  λ read. option_and_then_some script_of (document bytes) s read (λ d found is.
      let parts = value_of_read d s (document_in_order bytes d found) is in (found ∙ ap Some parts.0, parts.1, parts.2)),
  λ value. ap (option_and_then script_of) value.0 ∙ value_read s value.1 value.2,
)
