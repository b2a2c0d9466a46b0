use Rattle.std.proofs.Common.{◌≡◌, ◌+◌, length}
use Rattle.line_text.proofs.EditLemmas.{IsWritten}
use Rattle.line_text.proofs.edit.write_starts.Given as goal

abbrev pub invariant-loop-unit : goal.invariant-loop-unit
invariant-loop-unit l = record {
  offset : l.behind ≡ l.base + l.unit-index;
  written : IsWritten l.base l.units l.unit-index l.into l.at;
  same_length : length l.into ≡ length l.initial.into;
}
