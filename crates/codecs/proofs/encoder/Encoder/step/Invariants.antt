use Rattle.std.proofs.Common.{◌≡◌, ℕ, ◌+◌, ◌-◌, ◌<◌, ◌≤◌, ◌++◌, length, take}
use Rattle.machine.specs.Encodings.{encode}
use Rattle.codecs.specs.Partway.{waiting, completed, behind}
use Rattle.codecs.proofs.encoder.Encoder.step.Given as goal

abbrev pub invariant-loop-taken : goal.invariant-loop-taken
invariant-loop-taken l = record {
  within : l.taken ≤ length l.units;
  encoding : l.self.encoding ≡ l.fn.self.encoding;
  waits : l.self.waits ≡ waiting (behind l.fn.self.waits (take l.taken l.units));
  still : l.taken ≡ 0 → l.into.items ≡ l.fn.into.items;
  bytes : l.into.items ≡ l.fn.into.items ++ encode l.fn.self.encoding (completed (behind l.fn.self.waits (take l.taken l.units)));
  room : (k : ℕ) → k < l.taken → length l.fn.into.items + length (encode l.fn.self.encoding (completed (behind l.fn.self.waits (take k l.units)))) ≤ 4092;
}

abbrev pub decreases-loop-taken : goal.decreases-loop-taken
decreases-loop-taken l = length l.units - l.taken
