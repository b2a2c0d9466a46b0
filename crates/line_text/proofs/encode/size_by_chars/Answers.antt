use Rattle.std.proofs.Common.{◌≡◌, ◌+◌, ◌≤◌, ◌∷◌, [], ◌++◌, length, sym, ap, ◌∙◌, arith}
use Rattle.std.specs.Char.Escape.{encode_utf16}
use Rattle.std.specs.Str.{chars}
use Rattle.std.proofs.lemmas.Iterator.{YieldsList-from_chars}
use Rattle.std.proofs.lemmas.Iterator.Consumers.{YieldsList-so_far, YieldsList-turn, YieldsList-end}
use Rattle.std.proofs.lemmas.List.{map-id}
use Rattle.points.specs.Text.{utf16}
use Rattle.line_text.specs.declared.encode.Size.{Size}
use Rattle.line_text.specs.Size.{size_of}
use Rattle.line_text.proofs.EncodeLemmas.{next_fits, length-encode, length-utf16_push, feeds-utf16_push, feeds-encode_lf, same_size}
use Rattle.line_text.proofs.encode.size_by_chars.Goals as goal

pub returns-then-room-size : goal.returns-then-room-size
returns-then-room-size c = let more = length-encode c.in-Some.c c.len_utf16.result c.len_utf16.ensures.bmp c.len_utf16.ensures.surrogate_pair in
    let units = ap (λ (s : Size). s.units) c.loop-c.invariant.counted in
    λ h. omega (arith, fits, more, units, c.loop-c.invariant.fits)
  where
    fits : length (utf16 c.loop-c.yielded) + length (encode_utf16 c.in-Some.c) ≤ length (utf16 (chars c.args.text.now))
    fits = let text = YieldsList-from_chars c.args.text.now c.utf8.text cc in
        next_fits (chars c.args.text.now) c.loop-c.yielded c.in-Some.c (YieldsList-so_far text c.loop-c.yielded _ c.loop-c.yielded_by)
        (YieldsList-turn text c.loop-c.yielded _ c.loop-c.yielded_by _ _ c.in-Some.c c.in-Some.is c.next.ensures.steps)

pub loop-c-preserved-then-c-eq10 : goal.loop-c-preserved-then-c-eq10
loop-c-preserved-then-c-eq10 c = let more = length-encode c.in-Some.c c.len_utf16.result c.len_utf16.ensures.bmp c.len_utf16.ensures.surrogate_pair in
    let more_again = length-encode c.in-Some.c c.len_utf16-in-loop-c.result c.len_utf16-in-loop-c.ensures.bmp c.len_utf16-in-loop-c.ensures.surrogate_pair in
    let units = ap (λ (s : Size). s.units) c.loop-c.invariant.counted in
    let line_feeds = ap (λ (s : Size). s.feeds) c.loop-c.invariant.counted in
    record {
      counted = same_size _ (size_of (utf16 (c.loop-c.yielded ++ c.in-Some.c ∷ []))) (omega (arith, units, more_again, length-utf16_push c.loop-c.yielded c.in-Some.c))
          (omega (arith, line_feeds, feeds-utf16_push c.loop-c.yielded c.in-Some.c, feeds-encode_lf c.in-Some.c c.if-c-eq10.true));
      fits = omega (arith, more, more_again, c.loop-c.invariant.fits, c.if-room-size.false);
    }

pub returns : goal.returns
returns c = let units = ap (λ (s : Size). s.units) c.loop-c.invariant.counted in
    (omega (arith, units, ap length all, c.loop-c.invariant.fits), c.loop-c.invariant.counted ∙ ap size_of all)
  where
    all : utf16 c.loop-c.yielded ≡ utf16 (chars c.args.text.now)
    all = ap utf16 (sym (map-id c.loop-c.yielded) ∙ (YieldsList-end (YieldsList-from_chars c.args.text.now c.utf8.text cc) c.loop-c.yielded _ c.loop-c.yielded_by _ _ c.in-None.is c.next.ensures.steps).0)
