use Rattle.std.proofs.Common.{◌≡◌, ◌++◌, IsAscii}
use Rattle.search.proofs.copy.copied_plain.Given as goal

abbrev pub invariant-loop-piece : goal.invariant-loop-piece
invariant-loop-piece l = record {
  plain : IsAscii l.bytes.items;
  rest : l.bytes.items ++ l.piece-iterator ≡ l.reader.text;
}
