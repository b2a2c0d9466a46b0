use Rattle.std.proofs.Common.{ℕ, List, ◌∷◌, ◌++◌, [], sym, ap, ◌∙◌}
use Rattle.machine.specs.declared.reads.Encoding.{Encoding}
use Rattle.machine.specs.Encodings.{encode}
use Rattle.codecs.proofs.Spelled.{lone_utf8, lone_latin1}
use Rattle.codecs.proofs.encoder.put_lone.Goals as goal

pub returns-in-Utf8 : goal.returns-in-Utf8
returns-in-Utf8 c = c.put_narrow.ensures ∙ ap (λ (xs : List ℕ). c.args.into.now.items ++ xs)
    (sym (ap (λ (e : Encoding). encode e (c.args.unit ∷ [])) c.in-Utf8.is ∙ lone_utf8 c.args.unit c.requires.high c.requires.low))

pub returns-in-Latin1 : goal.returns-in-Latin1
returns-in-Latin1 c = c.push.ensures.items ∙ ap (λ (xs : List ℕ). c.args.into.now.items ++ xs)
    (ap (λ (x : ℕ). x ∷ []) c.latin1.ensures ∙ sym (ap (λ (e : Encoding). encode e (c.args.unit ∷ [])) c.in-Latin1.is ∙ lone_latin1 c.args.unit c.requires.high c.requires.low))
