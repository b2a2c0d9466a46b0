use Rattle.std.proofs.Common.{◌∙◌, ap, sym, ℕ, List, length, nat_lt}
use Rattle.points.specs.declared.limits.TheConstants.{MAX_UNITS}
use Rattle.points.specs.Text.{utf16_of, replaced}
use Rattle.points.specs.Place.{clipped_offset}
use Rattle.plain_replay.proofs.EditLemmas.{member_made, is_nothing}
use Rattle.plain_replay.proofs.progress.member.Goals as goal

pub returns : goal.returns
returns c =
    let i : ℕ = c.span-from.result.0 in
    let j : ℕ = c.span-from.result.1 in
    member_made c.args.body.now (c.args.range, utf16_of c.args.text.now) i j c.in_ok-new.new c.in_ok-one_made.field-0
    (c.span-from.ensures.from ∙ ap (λ (t : List ℕ). clipped_offset t c.args.range.start) c.text.ensures.value)
    (c.span-from.ensures.to ∙ ap (λ (t : List ℕ). clipped_offset t c.args.range.end) c.text.ensures.value) c.in_ok-new.ensures
    (sym (c.changes_nothing.ensures ∙ ap (λ (n : List ℕ). is_nothing i j n) c.as_slice.ensures) ∙ c.if-changes_nothing.false)
    (sym (c.is_too_long.ensures ∙ ap (λ (x : List ℕ). nat_lt MAX_UNITS (length (replaced x i j c.as_slice-2.result.now))) c.text-2.ensures.value
    ∙ ap (λ (n : List ℕ). nat_lt MAX_UNITS (length (replaced c.args.body.now.text i j n))) c.as_slice-2.ensures) ∙ c.if-is_too_long.false)
    c.in_ok-one_made.ensures
