use Rattle.std.proofs.Common.{length, ap, sym, ◌∙◌}
use Rattle.std.specs.Char.Utf16.{utf16_lossy_chars}
use Rattle.std.proofs.lemmas.Str.{chars_from_encodes}
use Rattle.plain_reads.proofs.length.characters.Goals as goal

pub returns : goal.returns
returns c = c.characters_in.ensures ∙ ap length (sym (chars_from_encodes (utf16_lossy_chars c.args.text.now) c.as_str.result.now c.as_str.utf8 (sym (c.as_str.ensures.value ∙ c.in_ok-copy.ensures))))
