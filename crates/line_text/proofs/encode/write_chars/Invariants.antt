use Rattle.std.proofs.Common.{◌≡◌, length, take}
use Rattle.points.specs.Text.{utf16}
use Rattle.line_text.proofs.encode.write_chars.Given as goal

abbrev pub invariant-loop-c : goal.invariant-loop-c
invariant-loop-c l = record {
  at_end : l.at ≡ length (utf16 l.yielded);
  written : take l.at l.into ≡ utf16 l.yielded;
  same_length : length l.into ≡ length l.initial.into;
}
