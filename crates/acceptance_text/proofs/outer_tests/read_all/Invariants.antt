use Rattle.std.proofs.Common.{ℕ, ◌≤◌, ◌-◌, ◌+◌, length}
use Rattle.std.specs.Prelude.{vec_len}
use Rattle.outer.specs.Source.{Gives}
use Rattle.acceptance_text.proofs.outer_tests.read_all.Given as goal

abbrev pub invariant-loop-chunk : goal.invariant-loop-chunk
invariant-loop-chunk g l = record {
  gives : Gives l.all.items (g.I.Source.left l.initial.source) (g.I.Source.left l.source);
  count : g.I.Source.faults l.initial.source ≤ g.I.Source.faults l.source;
}

abbrev pub decreases-loop-chunk : goal.decreases-loop-chunk
decreases-loop-chunk g l = l.limit + 1 - vec_len l.all
