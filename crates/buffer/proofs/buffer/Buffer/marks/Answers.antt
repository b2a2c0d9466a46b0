use Rattle.std.proofs.Common.{◌≡◌, List, Some, None, refl, sym, ap, ◌∙◌}
use Rattle.points.specs.declared.mark.Mark.{Mark}
use Rattle.machine.specs.Machine.{State, counted}
use Rattle.buffer.specs.Seen.{state_of}
use Rattle.buffer.proofs.EditLemmas.{same_answer}
use Rattle.std.proofs.Common.{ℕ}
use Rattle.machine.specs.Machine.{find_marks, step}
use Rattle.machine.specs.declared.reply.Reply.TheVariants as reply
use Rattle.buffer.proofs.MarkCalls.{marks_found}
use Rattle.buffer.proofs.buffer.Buffer.marks.Goals as goal

pub returns-clause-ok : goal.returns-clause-ok
returns-clause-ok g c =
    let s : State = state_of c.args.self.now in
    same_answer s (find_marks c.args.how c.args.range) _ _ _ (marks_found s c.args.how c.args.range _ (c.new.ensures ∙ c.in_ok-ids.ensures)) (ap (λ b. state_of b) c.numbered.ensures.new) (rw c.numbered.ensures.number refl)
