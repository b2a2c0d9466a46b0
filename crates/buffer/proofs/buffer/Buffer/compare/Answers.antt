use Rattle.std.proofs.Common.{◌≡◌, List, Some, None, refl, sym, ap, ◌∙◌}
use Rattle.points.specs.declared.mark.Mark.{Mark}
use Rattle.machine.specs.Machine.{State, counted}
use Rattle.buffer.specs.Seen.{state_of}
use Rattle.buffer.proofs.EditLemmas.{same_answer}
use Rattle.machine.specs.Machine.{compare_marks}
use Rattle.buffer.proofs.MarkCalls.{compared, compare_unknown}
use Rattle.buffer.proofs.buffer.Buffer.compare.Goals as goal

pub returns-in-Ok-clause-ok : goal.returns-in-Ok-clause-ok
returns-in-Ok-clause-ok g c =
    let s : State = state_of c.args.self.now in
    same_answer s (compare_marks c.args.a c.args.b) _ _ _ (compared s c.args.a c.args.b _ c.in-Ok.ensures) (ap (λ b. state_of b) c.numbered.ensures.new) (rw c.numbered.ensures.number refl)

pub returns-in-Err-clause-ok : goal.returns-in-Err-clause-ok
returns-in-Err-clause-ok g c =
    let s : State = state_of c.args.self.now in
    same_answer s (compare_marks c.args.a c.args.b) _ _ _ (compare_unknown s c.args.a c.args.b c.in-Err.ensures) (ap (λ b. state_of b) c.refused.ensures.new) c.refused.ensures.reply
