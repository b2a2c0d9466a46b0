use Rattle.std.proofs.Common.{drop}
use Rattle.std.specs.List.{AllByRecursion}
use Rattle.std.specs.List.Sorted.{IsStrictlyIncreasing}
use Rattle.machine.specs.Lawful.{numbers}
use Rattle.transcript_check.proofs.rising.all_rise.Given as goal

abbrev pub invariant-loop-i : goal.invariant-loop-i
invariant-loop-i l = record {
  down : AllByRecursion (λ rs. IsStrictlyIncreasing (numbers rs)) l.sessions → AllByRecursion (λ rs. IsStrictlyIncreasing (numbers rs)) (drop l.i l.sessions);
  up : AllByRecursion (λ rs. IsStrictlyIncreasing (numbers rs)) (drop l.i l.sessions) → AllByRecursion (λ rs. IsStrictlyIncreasing (numbers rs)) l.sessions;
}
