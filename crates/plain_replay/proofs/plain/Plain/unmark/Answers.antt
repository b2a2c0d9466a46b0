use Rattle.std.proofs.Common.{◌≡◌, ◌∙◌, ap, sym, subst, List}
use Rattle.machine.specs.Machine.{State}
use Rattle.points.specs.declared.mark.Mark.{Mark}
use Rattle.points.specs.MarkList.{mark_with, without_mark}
use Rattle.plain_replay.specs.Standing.{IsSound}
use Rattle.plain_replay.proofs.SoundLemmas.{sound_without}
use Rattle.plain_replay.proofs.CallLemmas.{same_pair, unmark_unknown, unmarked}
use Rattle.plain_replay.proofs.plain.Plain.unmark.Goals as goal

pub put_marks-requires-clause-sound : goal.put_marks-requires-clause-sound
put_marks-requires-clause-sound c =
    let same : c.marks-known.result.now ≡ c.args.self.now.marks = c.marks-known.ensures.value ∙ ap (λ (s : State). s.marks) c.self.view_is in
    subst (λ (ms : List Mark). IsSound c.args.self.now.text ms) (sym (c.in_ok-others-in-Some.ensures ∙ ap (without_mark c.args.id) same))
    (sound_without c.args.self.now.text c.args.self.now.marks c.args.id (subst (λ (s : State). IsSound s.text s.marks) c.self.view_is c.marks-known.ensures.sound))

pub returns-in-None-clause-ok : goal.returns-in-None-clause-ok
returns-in-None-clause-ok c = same_pair _ _ _ _ c.refused.ensures.state c.refused.ensures.reply
    ∙ unmark_unknown c.args.self.now c.args.id (c.in-None.ensures ∙ ap (mark_with c.args.id) (c.marks-known.ensures.value ∙ ap (λ (s : State). s.marks) c.self.view_is))

pub returns-in_ok-others-in-Some-clause-ok : goal.returns-in_ok-others-in-Some-clause-ok
returns-in_ok-others-in-Some-clause-ok c =
    let same : c.marks-known.result.now ≡ c.args.self.now.marks = c.marks-known.ensures.value ∙ ap (λ (s : State). s.marks) c.self.view_is in
    same_pair _ _ _ _ c.put_marks.ensures.state c.put_marks.ensures.reply
    ∙ unmarked c.args.self.now c.args.id c.in-Some.field-0 c.in_ok-others-in-Some.others.items (c.in-Some.ensures ∙ ap (mark_with c.args.id) same) (c.in_ok-others-in-Some.ensures ∙ ap (without_mark c.args.id) same)
