use Rattle.std.proofs.Common.{◌+◌, ◌*◌, ◌≤◌, chars, length, sym, ap, subst, ◌∙◌, arith}
use Rattle.std.specs.Char.Escape.{encode_utf16}
use Rattle.std.proofs.lemmas.Iterator.{YieldsList-from_chars}
use Rattle.std.proofs.lemmas.Iterator.Consumers.{YieldsList-so_far, YieldsList-turn, YieldsList-end}
use Rattle.std.proofs.lemmas.List.{map-id}
use Rattle.points.specs.declared.point.Point.{Point}
use Rattle.points.specs.declared.limits.TheConstants.{MAX_COORD}
use Rattle.points.specs.Point.{IsWithin, traverse}
use Rattle.points.specs.Place.{extent}
use Rattle.points.specs.Text.{utf16}
use Rattle.points.proofs.ExtentParts.{extent_within}
use Rattle.line_text.proofs.EncodeLemmas.{next_fits}
use Rattle.plain_reads.proofs.PlaceLemmas.{traverse_within, led_char}
use Rattle.plain_reads.proofs.place.led_over.Goals as goal

pub behind-reached-requires : goal.behind-reached-requires
behind-reached-requires c = subst (λ (p : Point). IsWithin (2 * MAX_COORD) p) (sym c.loop-c.invariant)
    (traverse_within MAX_COORD MAX_COORD (2 * MAX_COORD) c.args.start (extent (utf16 c.loop-c.yielded)) c.requires.near (extent_within (utf16 c.loop-c.yielded) MAX_COORD (omega (arith, fits, c.requires.short))) (omega arith))
  where
    fits : length (utf16 c.loop-c.yielded) + length (encode_utf16 c.in-Some.c) ≤ length (utf16 (chars c.args.text.now))
    fits = let text = YieldsList-from_chars c.args.text.now c.utf8.text cc in
        next_fits (chars c.args.text.now) c.loop-c.yielded c.in-Some.c (YieldsList-so_far text c.loop-c.yielded _ c.loop-c.yielded_by)
        (YieldsList-turn text c.loop-c.yielded _ c.loop-c.yielded_by _ _ c.in-Some.c c.in-Some.is c.next.ensures.steps)

pub loop-c-preserved : goal.loop-c-preserved
loop-c-preserved c = c.behind-reached.ensures ∙ (ap (λ (p : Point). traverse p (extent (encode_utf16 c.in-Some.c))) c.loop-c.invariant ∙ led_char c.args.start c.loop-c.yielded c.in-Some.c)

pub returns : goal.returns
returns c = c.loop-c.invariant ∙ ap (λ xs. traverse c.args.start (extent (utf16 xs)))
    (sym (map-id c.loop-c.yielded) ∙ (YieldsList-end (YieldsList-from_chars c.args.text.now c.utf8.text cc) c.loop-c.yielded _ c.loop-c.yielded_by _ _ c.in-None.is c.next.ensures.steps).0)
