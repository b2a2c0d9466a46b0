use Rattle.std.proofs.Common.{◌∙◌, ◌≤◌, ℕ, List, length, sym, ap, subst}
use Rattle.points.specs.declared.limits.TheConstants.{MAX_COORD}
use Rattle.points.specs.Point.{traverse}
use Rattle.points.specs.Place.{extent}
use Rattle.line_text.proofs.EncodeLemmas.{utf16_of_ascii}
use Rattle.search.proofs.place.led_over.Goals as goal

pub led_by_bytes-requires-clause-short : goal.led_by_bytes-requires-clause-short
led_by_bytes-requires-clause-short c = subst (λ (xs : List ℕ). length xs ≤ MAX_COORD)
    (utf16_of_ascii c.args.text.now c.if-is_ascii.ensures.cases ∙ sym c.as_bytes.ensures.value) c.requires.short

pub returns-then-is_ascii : goal.returns-then-is_ascii
returns-then-is_ascii c = c.led_by_bytes.ensures ∙ ap (λ (xs : List ℕ). traverse c.args.start (extent xs))
    (c.as_bytes.ensures.value ∙ sym (utf16_of_ascii c.args.text.now c.if-is_ascii.ensures.cases))
