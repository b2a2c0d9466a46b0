use Rattle.std.proofs.Common.{◌≡◌, ◌≤◌}
use Rattle.points.specs.Text.{utf16}
use Rattle.line_text.specs.Size.{size_of}
use Rattle.line_text.proofs.encode.size_by_chars.Given as goal

abbrev pub invariant-loop-c : goal.invariant-loop-c
invariant-loop-c l = record {
  counted : l.size ≡ size_of (utf16 l.yielded);
  fits : l.size.units ≤ l.room;
}
