use Rattle.std.proofs.Common.{◌∙◌, ap}
use Rattle.machine.specs.Machine.{State, Found, finds}
use Rattle.points.specs.MarkList.{ids_where}
use Rattle.plain_replay.proofs.CallLemmas.{marks_found, numbered}
use Rattle.plain_replay.proofs.plain.Plain.find_marks.Goals as goal

pub returns-clause-ok : goal.returns-clause-ok
returns-clause-ok c = rw c.new.ensures (numbered c.self.inside.body c.number.new.self c.args.self.now c.self.inside.past.items c.self.inside.future.items c.number.result
    (Found c.in_ok-ids.ids.items) c.number.ensures.body c.number.ensures.number c.self.view_is
    ∙ marks_found c.args.self.now c.args.how c.args.range c.in_ok-ids.ids.items
    (c.in_ok-ids.ensures ∙ ap (ids_where (finds c.args.how c.args.range.start c.args.range.end)) (c.marks.ensures.value ∙ ap (λ (s : State). s.marks) c.self.view_is)))
