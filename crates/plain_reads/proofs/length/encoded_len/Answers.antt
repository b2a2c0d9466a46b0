use Rattle.std.proofs.Common.{◌*◌, ℕ, length, ap, sym, ◌∙◌, inl, inr}
use Rattle.machine.specs.declared.reads.Encoding.{Encoding}
use Rattle.machine.specs.Encodings.{encode}
use Rattle.plain_reads.proofs.LengthLemmas.{low_long, high_long}
use Rattle.plain_reads.proofs.length.encoded_len.Goals as goal

pub returns-in-Utf16Le : goal.returns-in-Utf16Le
returns-in-Utf16Le c = elim c.in-Utf16Le.is [
  | inl e ↦ ap (λ (n : ℕ). n * 2) c.len.ensures.value ∙ (sym (low_long c.args.text.now) ∙ ap (λ (x : Encoding). length (encode x c.args.text.now)) (sym e))
  | inr e ↦ ap (λ (n : ℕ). n * 2) c.len.ensures.value ∙ (sym (high_long c.args.text.now) ∙ ap (λ (x : Encoding). length (encode x c.args.text.now)) (sym e))
]
