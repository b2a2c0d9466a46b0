use Rattle.std.proofs.Common.{◌≡◌, ◌+◌, length}
use Rattle.std.specs.Str.{IsUtf8}
use Rattle.std.specs.Str.Iter.{chars_rest}
use Rattle.points.specs.Text.{utf16_of}
use Rattle.generator.proofs.measure.units_of.Given as goal

abbrev pub invariant-loop-c : goal.invariant-loop-c
invariant-loop-c l = record {
  utf8 : IsUtf8 (chars_rest l.c-iterator);
  counted : l.units + length (utf16_of (chars_rest l.c-iterator)) ≡ length (utf16_of l.text);
}
