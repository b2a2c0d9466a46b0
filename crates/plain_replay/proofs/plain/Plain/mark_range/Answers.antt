use Rattle.std.proofs.Common.{◌∙◌, ap}
use Rattle.machine.specs.Machine.{State, Ranged}
use Rattle.points.specs.MarkList.{mark_with}
use Rattle.plain_replay.proofs.CallLemmas.{same_pair, range_unknown, range_shown, numbered}
use Rattle.plain_replay.proofs.plain.Plain.mark_range.Goals as goal

pub returns-in-None : goal.returns-in-None
returns-in-None c = same_pair _ _ _ _ c.refused.ensures.state c.refused.ensures.reply
    ∙ range_unknown c.args.self.now c.args.id (c.in-None.ensures ∙ ap (mark_with c.args.id) (c.marks.ensures.value ∙ ap (λ (s : State). s.marks) c.self.view_is))

pub returns-in-Some : goal.returns-in-Some
returns-in-Some c = numbered c.self.inside.body c.number.new.self c.args.self.now c.self.inside.past.items c.self.inside.future.items c.number.result
    (Ranged c.in-Some.mark.start c.in-Some.mark.end c.in-Some.mark.exclusive) c.number.ensures.body c.number.ensures.number c.self.view_is
    ∙ range_shown c.args.self.now c.args.id c.in-Some.mark (c.in-Some.ensures ∙ ap (mark_with c.args.id) (c.marks.ensures.value ∙ ap (λ (s : State). s.marks) c.self.view_is))
