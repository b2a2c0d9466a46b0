use Rattle.std.proofs.Common.{◌≡◌, List, Some, None, refl, sym, ap, ◌∙◌}
use Rattle.points.specs.declared.mark.Mark.{Mark}
use Rattle.machine.specs.Machine.{State, counted}
use Rattle.buffer.specs.Seen.{state_of}
use Rattle.buffer.proofs.EditLemmas.{same_answer}
use Rattle.machine.specs.Machine.{set_exclusive}
use Rattle.buffer.proofs.MarkCalls.{exclusive_set, exclusive_unknown}
use Rattle.buffer.proofs.buffer.Buffer.set_exclusive.Goals as goal

pub returns-in-Ok-clause-ok : goal.returns-in-Ok-clause-ok
returns-in-Ok-clause-ok g c =
    let s : State = state_of c.args.self.now in
    same_answer s (set_exclusive c.args.id c.args.exclusive) _ _ _ (exclusive_set s c.args.id c.args.exclusive (sym c.in-Ok.ensures.unknown))
    (ap (λ b. state_of b) c.done.ensures.new ∙ ap (λ (ms : List Mark). counted (record s { marks = ms })) c.in-Ok.ensures.ok) c.done.ensures.reply

pub returns-in-Err-clause-ok : goal.returns-in-Err-clause-ok
returns-in-Err-clause-ok g c =
    let s : State = state_of c.args.self.now in
    same_answer s (set_exclusive c.args.id c.args.exclusive) _ _ _ (exclusive_unknown s c.args.id c.args.exclusive (sym c.in-Err.ensures.unknown))
    (ap (λ b. state_of b) c.refused.ensures.new ∙ ap (λ (ms : List Mark). counted (record s { marks = ms })) c.in-Err.ensures.err) c.refused.ensures.reply
