use Rattle.std.proofs.Common.{◌≡◌, List, Some, None, refl, sym, ap, ◌∙◌}
use Rattle.points.specs.declared.mark.Mark.{Mark}
use Rattle.machine.specs.Machine.{State, counted}
use Rattle.buffer.specs.Seen.{state_of}
use Rattle.buffer.proofs.EditLemmas.{same_answer}
use Rattle.machine.specs.Machine.{remove_mark}
use Rattle.buffer.proofs.MarkCalls.{unmarked, unmark_unknown}
use Rattle.buffer.proofs.buffer.Buffer.unmark.Goals as goal

pub returns-in-Ok-clause-ok : goal.returns-in-Ok-clause-ok
returns-in-Ok-clause-ok g c =
    let s : State = state_of c.args.self.now in
    same_answer s (remove_mark c.args.id) _ _ _ (unmarked s c.args.id (sym c.in-Ok.ensures.unknown))
    (ap (λ b. state_of b) c.done.ensures.new ∙ ap (λ (ms : List Mark). counted (record s { marks = ms })) c.in-Ok.ensures.ok) c.done.ensures.reply

pub returns-in-Err-clause-ok : goal.returns-in-Err-clause-ok
returns-in-Err-clause-ok g c =
    let s : State = state_of c.args.self.now in
    same_answer s (remove_mark c.args.id) _ _ _ (unmark_unknown s c.args.id (sym c.in-Err.ensures.unknown))
    (ap (λ b. state_of b) c.refused.ensures.new ∙ ap (λ (ms : List Mark). counted (record s { marks = ms })) c.in-Err.ensures.err) c.refused.ensures.reply
