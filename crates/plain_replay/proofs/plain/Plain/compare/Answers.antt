use Rattle.std.proofs.Common.{◌∙◌, ap}
use Rattle.machine.specs.Machine.{State, Compared}
use Rattle.points.specs.MarkList.{mark_with}
use Rattle.plain_replay.proofs.CallLemmas.{same_pair, first_unknown, second_unknown, compared, numbered}
use Rattle.points.specs.Marks.{mark_order}
use Rattle.plain_replay.proofs.plain.Plain.compare.Goals as goal

pub returns-in-None : goal.returns-in-None
returns-in-None c = same_pair _ _ _ _ c.refused.ensures.state c.refused.ensures.reply
    ∙ first_unknown c.args.self.now c.args.a c.args.b (c.in-None.ensures ∙ ap (mark_with c.args.a) (c.marks.ensures.value ∙ ap (λ (s : State). s.marks) c.self.view_is))

pub returns-in-None-mark_with : goal.returns-in-None-mark_with
returns-in-None-mark_with c = same_pair _ _ _ _ c.refused-in-None-mark_with.ensures.state c.refused-in-None-mark_with.ensures.reply
    ∙ second_unknown c.args.self.now c.args.a c.args.b c.in-Some.mark (c.in-Some.ensures ∙ ap (mark_with c.args.a) (c.marks.ensures.value ∙ ap (λ (s : State). s.marks) c.self.view_is))
    (c.in-None-mark_with.ensures ∙ ap (mark_with c.args.b) (c.marks-2.ensures.value ∙ ap (λ (s : State). s.marks) c.self.view_is))

pub returns-in-Some-mark_with : goal.returns-in-Some-mark_with
returns-in-Some-mark_with c = rw c.mark_order.ensures (numbered c.self.inside.body c.number.new.self c.args.self.now c.self.inside.past.items c.self.inside.future.items c.number.result
    (Compared (mark_order c.in-Some.mark c.in-Some-mark_with.second)) c.number.ensures.body c.number.ensures.number c.self.view_is
    ∙ compared c.args.self.now c.args.a c.args.b c.in-Some.mark c.in-Some-mark_with.second (c.in-Some.ensures ∙ ap (mark_with c.args.a) (c.marks.ensures.value ∙ ap (λ (s : State). s.marks) c.self.view_is))
    (c.in-Some-mark_with.ensures ∙ ap (mark_with c.args.b) (c.marks-2.ensures.value ∙ ap (λ (s : State). s.marks) c.self.view_is)))
