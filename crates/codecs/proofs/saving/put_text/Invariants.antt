use Rattle.std.proofs.Common.{◌≤◌, length}
use Rattle.codecs.specs.Saving.{IsGiven}
use Rattle.codecs.proofs.saving.put_text.Given as goal

abbrev pub invariant-loop-piece : goal.invariant-loop-piece
invariant-loop-piece g l = record {
  given : IsGiven l.reader.text l.fn.encoding l.piece-iterator l.out (g.K.Sink.taken l.fn.sink) (g.K.Sink.taken l.sink);
  room : length l.out.held ≤ 4092;
  count : g.K.Sink.faults l.fn.sink ≤ g.K.Sink.faults l.sink;
}
