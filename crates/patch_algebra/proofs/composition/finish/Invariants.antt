use Rattle.std.proofs.Common.{◌≡◌, ◌++◌, drop}
use Rattle.patch.specs.Stretches.{parts_seen}
use Rattle.patch_algebra.specs.Merging.{betweens_seen, parts_between}
use Rattle.patch_algebra.proofs.composition.finish.Given as goal

abbrev pub invariant-loop-middle : goal.invariant-loop-middle
invariant-loop-middle l = parts_seen l.stretches.items ++ parts_between l.place (betweens_seen (drop l.middle-index l.middle-items)) ≡ parts_seen l.initial.stretches.items ++ parts_between l.initial.place (betweens_seen l.middle-items)
