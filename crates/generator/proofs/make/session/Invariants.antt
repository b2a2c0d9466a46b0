use Rattle.std.proofs.Common.{◌≡◌, ◌*◌}
use Rattle.generator.specs.Generator.{state_after, blocks}
use Rattle.generator.proofs.make.session.Given as goal

abbrev pub invariant-loop-block : goal.invariant-loop-block
invariant-loop-block l = record {
  state : l.drawing.state ≡ state_after (5 * l.block) l.fn.drawing.state;
  commands : l.commands.items ≡ blocks l.fn.drawing.state l.block;
}
