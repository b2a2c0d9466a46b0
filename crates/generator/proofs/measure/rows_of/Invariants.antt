use Rattle.std.proofs.Common.{◌≡◌, ◌+◌, count_by}
use Rattle.std.specs.Str.{IsUtf8}
use Rattle.std.specs.Str.Iter.{chars_rest}
use Rattle.points.specs.Text.{utf16_of, is_lf}
use Rattle.generator.proofs.measure.rows_of.Given as goal

abbrev pub invariant-loop-c : goal.invariant-loop-c
invariant-loop-c l = record {
  utf8 : IsUtf8 (chars_rest l.c-iterator);
  counted : l.rows + count_by is_lf (utf16_of (chars_rest l.c-iterator)) ≡ count_by is_lf (utf16_of l.text) + 1;
}
