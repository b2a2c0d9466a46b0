use Rattle.std.proofs.Common.{◌≤◌, ℕ, List, length, sym, ap, subst, ◌∙◌}
use Rattle.points.specs.declared.point.Point.{Point}
use Rattle.points.specs.declared.limits.TheConstants.{MAX_COORD}
use Rattle.points.specs.Point.{IsWithin, traverse}
use Rattle.points.specs.Place.{extent}
use Rattle.points.specs.Text.{utf16_of}
use Rattle.machine.specs.Answers.{point_of_byte}
use Rattle.plain_reads.proofs.PlaceLemmas.{is_step}
use Rattle.plain_reads.proofs.place.moved.Goals as goal

pub led_over-requires-clause-near : goal.led_over-requires-clause-near
led_over-requires-clause-near c = subst (IsWithin MAX_COORD) (sym c.requires.point)
    (is_step c.args.text.now MAX_COORD c.args.from.byte c.args.to c.utf8.text c.requires.order c.requires.start c.requires.end c.requires.short).near

pub led_over-requires-clause-short : goal.led_over-requires-clause-short
led_over-requires-clause-short c = subst (λ (xs : List ℕ). length (utf16_of xs) ≤ MAX_COORD) (sym c.range.ensures.value)
    (is_step c.args.text.now MAX_COORD c.args.from.byte c.args.to c.utf8.text c.requires.order c.requires.start c.requires.end c.requires.short).short

pub returns-clause-point : goal.returns-clause-point
returns-clause-point c = c.led_over.ensures ∙ (ap (λ (p : Point). traverse p (extent (utf16_of c.range.result.now))) c.requires.point
    ∙ (ap (λ (xs : List ℕ). traverse (point_of_byte c.args.text.now c.args.from.byte) (extent (utf16_of xs))) c.range.ensures.value
    ∙ sym (is_step c.args.text.now MAX_COORD c.args.from.byte c.args.to c.utf8.text c.requires.order c.requires.start c.requires.end c.requires.short).point))
