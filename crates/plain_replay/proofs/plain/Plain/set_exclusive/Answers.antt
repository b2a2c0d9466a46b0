use Rattle.std.proofs.Common.{◌≡◌, ◌∙◌, ap, sym, subst, List}
use Rattle.machine.specs.Machine.{State}
use Rattle.points.specs.declared.mark.Mark.{Mark}
use Rattle.points.specs.MarkList.{mark_with, with_exclusive}
use Rattle.plain_replay.specs.Standing.{IsSound}
use Rattle.plain_replay.proofs.SoundLemmas.{sound_exclusive}
use Rattle.plain_replay.proofs.CallLemmas.{same_pair, exclusive_unknown, made_exclusive}
use Rattle.plain_replay.proofs.plain.Plain.set_exclusive.Goals as goal

pub put_marks-requires-clause-sound : goal.put_marks-requires-clause-sound
put_marks-requires-clause-sound c =
    let same : c.marks-known.result.now ≡ c.args.self.now.marks = c.marks-known.ensures.value ∙ ap (λ (s : State). s.marks) c.self.view_is in
    subst (λ (ms : List Mark). IsSound c.args.self.now.text ms) (sym (c.in_ok-all-in-Some.ensures ∙ ap (with_exclusive c.args.id c.args.exclusive) same))
    (sound_exclusive c.args.self.now.text c.args.self.now.marks c.args.id c.args.exclusive (subst (λ (s : State). IsSound s.text s.marks) c.self.view_is c.marks-known.ensures.sound))

pub returns-in-None-clause-ok : goal.returns-in-None-clause-ok
returns-in-None-clause-ok c = same_pair _ _ _ _ c.refused.ensures.state c.refused.ensures.reply
    ∙ exclusive_unknown c.args.self.now c.args.id c.args.exclusive (c.in-None.ensures ∙ ap (mark_with c.args.id) (c.marks-known.ensures.value ∙ ap (λ (s : State). s.marks) c.self.view_is))

pub returns-in_ok-all-in-Some-clause-ok : goal.returns-in_ok-all-in-Some-clause-ok
returns-in_ok-all-in-Some-clause-ok c =
    let same : c.marks-known.result.now ≡ c.args.self.now.marks = c.marks-known.ensures.value ∙ ap (λ (s : State). s.marks) c.self.view_is in
    same_pair _ _ _ _ c.put_marks.ensures.state c.put_marks.ensures.reply
    ∙ made_exclusive c.args.self.now c.args.id c.args.exclusive c.in-Some.field-0 c.in_ok-all-in-Some.all.items (c.in-Some.ensures ∙ ap (mark_with c.args.id) same) (c.in_ok-all-in-Some.ensures ∙ ap (with_exclusive c.args.id c.args.exclusive) same)
