use Rattle.std.proofs.Common.{◌≡◌, ◌∙◌, length, sym, ap}
use Rattle.points.specs.Text.{utf16_of}
use Rattle.line_text.proofs.EncodeLemmas.{utf16_of_ascii}
use Rattle.line_text.proofs.encode.write_units.Goals as goal

pub write_bytes-requires : goal.write_bytes-requires
write_bytes-requires c = c.requires ∙ ap length (utf16_of_ascii c.args.text.now c.if-is_ascii.ensures.cases ∙ sym c.as_bytes.ensures.value)

pub returns-then-is_ascii : goal.returns-then-is_ascii
returns-then-is_ascii c = c.write_bytes.ensures ∙ (c.as_bytes.ensures.value ∙ sym (utf16_of_ascii c.args.text.now c.if-is_ascii.ensures.cases))
