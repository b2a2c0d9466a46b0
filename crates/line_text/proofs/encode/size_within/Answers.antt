use Rattle.std.proofs.Common.{◌≡◌, ◌≤◌, ◌∙◌, List, ℕ, length, sym, subst, SomeIff}
use Rattle.points.specs.Text.{utf16_of}
use Rattle.line_text.specs.Size.{size_of}
use Rattle.line_text.proofs.EncodeLemmas.{utf16_of_ascii}
use Rattle.line_text.proofs.encode.size_within.Goals as goal

pub returns-then-is_ascii : goal.returns-then-is_ascii
returns-then-is_ascii c = subst (λ (units : List ℕ). SomeIff c.size_by_bytes.result (length units ≤ c.args.room) (size_of units))
    (c.as_bytes.ensures.value ∙ sym (utf16_of_ascii c.args.text.now c.if-is_ascii.ensures.cases)) c.size_by_bytes.ensures
