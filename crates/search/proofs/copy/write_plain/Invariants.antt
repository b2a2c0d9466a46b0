use Rattle.std.proofs.Common.{◌≡◌, length, take}
use Rattle.search.proofs.copy.write_plain.Given as goal

abbrev pub invariant-loop-at : goal.invariant-loop-at
invariant-loop-at l = record {
  written : take l.at l.into ≡ take l.at l.units;
  same_length : length l.into ≡ length l.initial.into;
}
