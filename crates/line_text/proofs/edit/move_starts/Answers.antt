use Rattle.std.proofs.Common.{◌+◌, ◌-◌, arith}
use Rattle.std.proofs.lemmas.Grind.{common_steps}
use Rattle.line_text.proofs.EditLemmas.{moved_more, next_item}
use Rattle.line_text.proofs.edit.move_starts.Goals as goal

pub overflow_sub-start : goal.overflow_sub-start
overflow_sub-start c = omega (arith, next_item c.args.starts.now c.loop-start.starts c.loop-start.start-index c.loop-start.invariant.rest, c.requires.behind c.loop-start.start-index 0 (omega arith))

pub overflow_add-start : goal.overflow_add-start
overflow_add-start c = omega (arith, next_item c.args.starts.now c.loop-start.starts c.loop-start.start-index c.loop-start.invariant.rest, c.requires.small c.loop-start.start-index 0 (omega arith))

pub loop-start-preserved : goal.loop-start-preserved
loop-start-preserved c = record {
  moved = moved_more (λ s. s - c.args.from + c.args.to) c.args.starts.now c.loop-start.starts c.loop-start.start-index (omega arith) (omega arith) c.loop-start.invariant.moved c.loop-start.invariant.rest;
  rest = grind (arith, common_steps, c.loop-start.invariant.rest);
}
