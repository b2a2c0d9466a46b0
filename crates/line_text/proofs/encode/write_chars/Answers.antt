use Rattle.std.proofs.Common.{◌≡◌, ◌∙◌, ◌+◌, ◌≤◌, length, sym, ap, arith}
use Rattle.std.specs.Char.Escape.{encode_utf16}
use Rattle.std.specs.Str.{chars}
use Rattle.std.proofs.lemmas.Iterator.{YieldsList-from_chars}
use Rattle.std.proofs.lemmas.Iterator.Consumers.{YieldsList-so_far, YieldsList-turn, YieldsList-end}
use Rattle.std.proofs.lemmas.List.{map-id, take_all}
use Rattle.points.specs.Text.{utf16}
use Rattle.line_text.proofs.EncodeLemmas.{next_fits}
use Rattle.line_text.proofs.encode.write_chars.Goals as goal

pub write_char-at-requires : goal.write_char-at-requires
write_char-at-requires c = omega (arith, fits, c.loop-c.invariant.at_end, c.loop-c.invariant.same_length, c.requires)
  where
    fits : length (utf16 c.loop-c.yielded) + length (encode_utf16 c.in-Some.c) ≤ length (utf16 (chars c.args.text.now))
    fits = let text = YieldsList-from_chars c.args.text.now c.utf8.text cc in
        next_fits (chars c.args.text.now) c.loop-c.yielded c.in-Some.c (YieldsList-so_far text c.loop-c.yielded _ c.loop-c.yielded_by)
        (YieldsList-turn text c.loop-c.yielded _ c.loop-c.yielded_by _ _ c.in-Some.c c.in-Some.is c.next.ensures.steps)

pub returns : goal.returns
returns c = sym (take_all c.loop-c.at c.loop-c.into (omega (arith, c.loop-c.invariant.at_end, c.loop-c.invariant.same_length, c.requires, ap length all))) ∙ (c.loop-c.invariant.written ∙ all)
  where
    all : utf16 c.loop-c.yielded ≡ utf16 (chars c.args.text.now)
    all = ap utf16 (sym (map-id c.loop-c.yielded) ∙ (YieldsList-end (YieldsList-from_chars c.args.text.now c.utf8.text cc) c.loop-c.yielded _ c.loop-c.yielded_by _ _ c.in-None.is c.next.ensures.steps).0)
