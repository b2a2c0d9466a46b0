use Rattle.std.proofs.Common.{sym, ap, ◌∙◌, true, false, arith}
use Rattle.std.specs.Char.Utf16.{utf16_lossy_chars}
use Rattle.bstr.specs.Utf8.{lossy_chars}
use Rattle.machine.specs.declared.reads.Encoding.{Encoding}
use Rattle.codecs.specs.Decoding.{decoded, paired, unit_of}
use Rattle.codecs.proofs.Read.{decoded_if, utf16_bytes}
use Rattle.codecs.proofs.decoding.decode.Goals as goal

pub returns-in-Utf8 : goal.returns-in-Utf8
returns-in-Utf8 c = decoded_if c.decode_utf8.result (lossy_chars c.args.bytes.now) _ c.decode_utf8.ensures (sym (ap (λ (e : Encoding). decoded e c.args.bytes.now) c.in-Utf8.is))

pub returns-in-Latin1 : goal.returns-in-Latin1
returns-in-Latin1 c = decoded_if c.decode_latin1.result c.args.bytes.now _ c.decode_latin1.ensures
    (utf16_bytes c.args.bytes.now (λ k. omega (arith, c.type_inv.bytes k)) ∙ sym (ap (λ (e : Encoding). decoded e c.args.bytes.now) c.in-Latin1.is))

pub returns-in-Utf16Le : goal.returns-in-Utf16Le
returns-in-Utf16Le c = decoded_if c.decode_utf16.result (utf16_lossy_chars (paired (unit_of true) c.args.bytes.now)) _ c.decode_utf16.ensures
    (sym (ap (λ (e : Encoding). decoded e c.args.bytes.now) c.in-Utf16Le.is))

pub returns-in-Utf16Be : goal.returns-in-Utf16Be
returns-in-Utf16Be c = decoded_if c.decode_utf16-in-Utf16Be.result (utf16_lossy_chars (paired (unit_of false) c.args.bytes.now)) _ c.decode_utf16-in-Utf16Be.ensures
    (sym (ap (λ (e : Encoding). decoded e c.args.bytes.now) c.in-Utf16Be.is))
