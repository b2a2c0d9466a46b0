use Rattle.std.proofs.Common.{◌≡◌, drop}
use Rattle.std.specs.List.{list_all}
use Rattle.script.specs.Limits.{has_needle}
use Rattle.script.proofs.reads.have_needles.Given as goal

abbrev pub invariant-loop-read : goal.invariant-loop-read
invariant-loop-read l = list_all has_needle (drop l.read-index l.reads) ≡ list_all has_needle l.reads
