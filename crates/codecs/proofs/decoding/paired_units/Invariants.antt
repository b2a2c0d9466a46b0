use Rattle.std.proofs.Common.{◌≡◌, ◌-◌, ◌≤◌, ◌++◌, length, drop}
use Rattle.codecs.specs.Decoding.{paired, unit_of}
use Rattle.codecs.proofs.decoding.paired_units.Given as goal

abbrev pub invariant-loop-at : goal.invariant-loop-at
invariant-loop-at l = record {
  within : l.at ≤ length l.bytes;
  units : l.units.items ++ paired (unit_of l.low_first) (drop l.at l.bytes) ≡ paired (unit_of l.low_first) l.bytes;
}

abbrev pub decreases-loop-at : goal.decreases-loop-at
decreases-loop-at l = length l.bytes - l.at
