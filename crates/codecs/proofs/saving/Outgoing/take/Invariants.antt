use Rattle.std.proofs.Common.{◌-◌, ◌≤◌, length, take}
use Rattle.codecs.specs.Saving.{IsSent}
use Rattle.codecs.proofs.saving.Outgoing.take.Given as goal

abbrev pub invariant-loop-at : goal.invariant-loop-at
invariant-loop-at g l = record {
  within : l.at ≤ length l.units;
  room : length l.self.held ≤ 4092;
  sent : IsSent (take l.at l.units) l.fn.self l.self (g.K.Sink.taken l.fn.sink) (g.K.Sink.taken l.sink);
  count : g.K.Sink.faults l.fn.sink ≤ g.K.Sink.faults l.sink;
}

abbrev pub decreases-loop-at : goal.decreases-loop-at
decreases-loop-at g l = length l.units - l.at
