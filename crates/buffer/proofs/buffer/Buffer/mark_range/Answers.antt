use Rattle.std.proofs.Common.{◌≡◌, List, Some, None, refl, sym, ap, ◌∙◌}
use Rattle.points.specs.declared.mark.Mark.{Mark}
use Rattle.machine.specs.Machine.{State, counted}
use Rattle.buffer.specs.Seen.{state_of}
use Rattle.buffer.proofs.EditLemmas.{same_answer}
use Rattle.machine.specs.Machine.{mark_range}
use Rattle.buffer.proofs.MarkCalls.{range_shown, range_unknown}
use Rattle.buffer.proofs.buffer.Buffer.mark_range.Goals as goal

pub returns-in-Ok-clause-ok : goal.returns-in-Ok-clause-ok
returns-in-Ok-clause-ok g c =
    let s : State = state_of c.args.self.now in
    same_answer s (mark_range c.args.id) _ _ _ (range_shown s c.args.id _ c.in-Ok.ensures) (ap (λ b. state_of b) c.numbered.ensures.new) (rw c.numbered.ensures.number refl)

pub returns-in-Err-clause-ok : goal.returns-in-Err-clause-ok
returns-in-Err-clause-ok g c =
    let s : State = state_of c.args.self.now in
    same_answer s (mark_range c.args.id) _ _ _ (range_unknown s c.args.id c.in-Err.ensures) (ap (λ b. state_of b) c.refused.ensures.new) c.refused.ensures.reply
