use Rattle.std.proofs.Common.{◌≡◌, ◌*◌}
use Rattle.generator.specs.Generator.{state_after, made_sessions}
use Rattle.generator.proofs.make.make_script.Given as goal

abbrev pub invariant-loop : goal.invariant-loop
invariant-loop l = record {
  state : l.drawing.state ≡ state_after (5 * l.fn.edits * l.counter) l.fn.first;
  made : l.made.items ≡ made_sessions l.fn.first l.fn.edits l.counter;
}
